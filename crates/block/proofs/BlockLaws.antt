-- A block that values define, for those who only cite it: its size and width, that its differences fit, and that its entry and its bytes give
-- the values back, whatever stands before and after them.
use Rattle.std.proofs.Common.{◌≡◌, ℕ, zero, suc, ◌+◌, ◌-◌, ◌*◌, ◌/◌, ◌%◌, ◌^◌, ◌<◌, ◌≤◌, true, false, List, [], ◌∷◌, ◌++◌, length, get_or, drop, sym, refl, ap, ◌∙◌, subst, mul-le-mul_right, mod-eq_of_lt, arith, get_or-append-add, le-ltb}
use lib.ListN.{length-map}
use lib.Pow.{high, low}
use lib.Seq.{get_or_at}
use Rattle.bit_rule.specs.Bytes.{bytes_for}
use Rattle.bit_rule.specs.Stream.{Fit, of_width, stream_bytes}
use Rattle.bit_rule.specs.Width.{legal_width, width_of}
use Rattle.bit_rule.specs.Place.{value_at}
use Rattle.bit_rule.proofs.Width.{width_of_legal, legal_le}
use Rattle.bit_rule.proofs.Stream.{total_bits-of_width, length-stream_bytes}
use Rattle.bit_rule.proofs.Place.{read_column, value_at-append}
use Rattle.std.specs.Prelude.{Option, Some, None}
use Rattle.num_bits.specs.MinMax.{minmax_u64}
use Rattle.num_bits.proofs.Bounds.{minmax_bounds}
use Rattle.block.specs.Block.{base_of, block_width, differences, block_size, block_bytes, words_per_entry, entry_words, entry_offset, entry_width, entry_base, damaged_entry, above_base, block_value}
use Rattle.block.specs.Calls.{Extent}
use Rattle.block.proofs.SealingLaws.{extent_of, extent_of_none, width_is, fits_width}

-- Each value is a word of 64 bits. (Past its end a list counts as 0.)
abbrev pub AreWords : List ℕ → Type 0
AreWords vs = (i : ℕ) → get_or vs i 0 < 2 ^ 64

-- ---- its size

pub length-block_bytes : (vs : List ℕ) → length (block_bytes vs) ≡ block_size vs
unfolding block_bytes block_size
length-block_bytes vs =
    let ds = differences (base_of vs) vs in
    length-stream_bytes (of_width (block_width vs) ds)
    ∙ ap bytes_for (total_bits-of_width (block_width vs) ds ∙ ap (λ n. n * block_width vs) (length-map vs (λ v. v - base_of vs)))

pub legal_block_width : (vs : List ℕ) → legal_width (block_width vs) ≡ true
unfolding block_width
legal_block_width vs = width_of_legal _

-- 128 values of 64 bits take 1,024 bytes
pub block_size-le : (vs : List ℕ) → length vs ≤ 128 → block_size vs ≤ 1024
unfolding block_size
block_size-le vs few =
    let w = block_width vs in
    let narrow : w ≤ 64 = legal_le w (legal_block_width vs) in
    let most : length vs * w ≤ 128 * w = mul-le-mul_right w few in
    omega arith

-- ---- its differences

-- the lowest and the highest of words are words
pub record Spread (vs : List ℕ) : Type 0 where
  pub low : ℕ
  pub high : ℕ
  pub extent : Extent low high vs
  pub word : high < 2 ^ 64

spread : (vs : List ℕ) → AreWords vs → Spread vs
spread vs words = by_answer (minmax_u64 vs) refl
  where
    by_answer : (r : Option (ℕ × ℕ)) → minmax_u64 vs ≡ r → Spread vs
    by_answer None is = record { low = 0; high = 0; extent = extent_of_none vs is; word = omega arith }
    by_answer (Some (low, high)) is =
        let (i, within, top) = (minmax_bounds vs low high is).highest_occurs in
        record { low = low; high = high; extent = extent_of vs low high is; word = subst (λ n. n < 2 ^ 64) top (words i) }

-- each value is its base and a difference
pub base_under : (vs : List ℕ) → AreWords vs → (i : ℕ) → i < length vs → base_of vs ≤ get_or vs i 0
base_under vs words i within =
    let s = spread vs words in
    subst (λ b. b ≤ get_or vs i 0) s.extent.lowest (s.extent.under i within)

pub differences_fit : (vs : List ℕ) → AreWords vs → Fit (of_width (block_width vs) (differences (base_of vs) vs))
differences_fit vs words =
    let s = spread vs words in
    subst (λ w. Fit (of_width w (differences (base_of vs) vs))) (width_is s.low s.high vs s.extent)
    (subst (λ b. Fit (of_width (width_of (s.high - s.low)) (differences b vs))) s.extent.lowest (fits_width s.low s.high vs s.extent s.word))

get_or_differences : (base : ℕ) (vs : List ℕ) (j : ℕ) → j < length vs → get_or (differences base vs) j 0 ≡ get_or vs j 0 - base
get_or_differences base [] j within = absurd (omega arith)
get_or_differences base (v ∷ vs) zero within = refl
get_or_differences base (v ∷ vs) (suc j) within = get_or_differences base vs j (omega arith)

-- Read at its width from its bytes and whatever follows them, with its base added, a block gives its values.
pub read_values : (vs rest : List ℕ) → AreWords vs → (j : ℕ) → j < length vs
    → above_base (base_of vs) (value_at (block_width vs) j (block_bytes vs ++ rest)) ≡ get_or vs j 0
unfolding block_bytes
read_values vs rest words j within =
    let w = block_width vs in
    let base = base_of vs in
    let ds = differences base vs in
    let stream = stream_bytes (of_width w ds) in
    let count : length ds ≡ length vs = length-map vs (λ v. v - base) in
    let bits : (j + 1) * w ≤ length ds * w = mul-le-mul_right w (omega arith) in
    let there : (j + 1) * w ≤ 8 * length stream = omega (arith, length-stream_bytes (of_width w ds), total_bits-of_width w ds) in
    let under : base ≤ get_or vs j 0 = base_under vs words j within in
    let whole : base + (get_or vs j 0 - base) ≡ get_or vs j 0 = omega arith in
    ap (above_base base)
    (value_at-append stream rest w j there
    ∙ read_column w ds j (differences_fit vs words) (omega arith)
    ∙ get_or_differences base vs j within)
    ∙ ap (λ n. n % 2 ^ 64) whole
    ∙ mod-eq_of_lt (words j)

-- ---- its entry, behind so many others

module _ (k offset : ℕ) (vs before after : List ℕ) (place : length before ≡ k * words_per_entry) (near : offset < 2 ^ 56) where
  abbrev entries : List ℕ
  entries = before ++ (entry_words offset vs ++ after)

  first_word : get_or entries (k * words_per_entry) 0 ≡ block_width vs * 2 ^ 56 + offset
  unfolding entry_words
  first_word = get_or_at before (offset + block_width vs * 2 ^ 56) (base_of vs ∷ after) 0 (k * words_per_entry) place ∙ omega arith

  pub offset_back : entry_offset k entries ≡ offset
  unfolding entry_offset
  offset_back = ap (λ n. n % 2 ^ 56) first_word ∙ low (block_width vs) 56 near

  pub width_back : entry_width k entries ≡ block_width vs
  unfolding entry_width
  width_back = ap (λ n. n / 2 ^ 56) first_word ∙ high (block_width vs) 56 near

  pub base_back : entry_base k entries ≡ base_of vs
  unfolding entry_base entry_words
  base_back =
      ap (λ n. get_or entries (n + 1) 0) (sym place)
      ∙ get_or-append-add before ((offset + block_width vs * 2 ^ 56) ∷ base_of vs ∷ after) 1 0

  -- An entry of a block that ends within the used bytes is not damaged.
  pub entry_fine : (used n : ℕ) → n ≡ length vs → offset + block_size vs ≤ used → damaged_entry used n k entries ≡ false
  unfolding damaged_entry block_size
  entry_fine used n count ends = simp (offset_back, width_back, legal_block_width vs, count) (le-ltb _ _ ends)

  -- The value at a place of the block, where its bytes stand at its offset.
  pub value_back : (bytes rest : List ℕ) → drop offset bytes ≡ block_bytes vs ++ rest → AreWords vs → (j : ℕ) → j < length vs
      → block_value k j bytes entries ≡ get_or vs j 0
  unfolding block_value
  value_back bytes rest stand words j within =
      simp (offset_back, width_back, base_back, stand) (read_values vs rest words j within)
