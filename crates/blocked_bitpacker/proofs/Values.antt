-- The values of a store from an index on, one stretch after the other: each stretch lies in one block, from whose bytes it is read, or among
-- the values that wait. Two lists with the same elements are the same (`values_are`).
use Rattle.std.specs.Prelude.{Result}
use Rattle.refusal.specs.Done.{done}
use mathlib.Core.Path.{◌≡◌, refl, sym, ap, ap₂, ◌∙◌, subst}
use mathlib.Core.Logic.{⊎_elim}
use mathlib.Core.Bool.{Bool, true, false, ◌||◌, cond}
use mathlib.Core.List.{List, [], ◌∷◌, ◌++◌, map, append_assoc}
use Prim.Native.Nat.{ℕ, zero, suc, ◌+◌, ◌-◌, ◌*◌, ◌/◌, ◌%◌, ◌≤◌, ◌<◌, max, min}
use native.Mathlib.Nat.{zero-add, add-zero, suc-add, le_antisymm}
use native.Mathlib.Omega.{arith}
use lib.ListN.{length, get_or, take, drop, length-append, length-map}
use Rattle.std.proofs.lemmas.List.{get_or-take, get_or-drop}
use lib.Seq.{ext_get_or, take_at, length-take-le}
use borrow.Author.Tests.{lt-ltb, le-ltb, le-leb, ne_eqb}
use borrow.Rule.Slice.PartMut.{mid_of, put_mid, post_of, mid_len}
use Rattle.bit_rule.specs.Place.{values_from}
use Rattle.bit_rule.proofs.Place.{length-values_from, get_or-values_from}
use Rattle.bit_rule.proofs.Parts.{rest_from, rest_from_is}
use Rattle.bit_rule.proofs.Width.{le_or_lt}
use Rattle.refusal.specs.declared.Refusal.{Refusal}
use Rattle.bitunpacker.specs.Unpacker.{Range, range}
use Rattle.block.specs.Block.{entry_offset, entry_width, entry_base, damaged_entry, above_base, block_value}
use Rattle.block.specs.Calls.{read_of}
use Rattle.blocked_bitpacker.specs.declared.BlockedBitpacker.{BlockedBitpacker}
use Rattle.blocked_bitpacker.specs.Store.{SoundIn, is_closed, count_of, length_of_block, value_of, values_of, damaged_blocks, touched_damaged}
use Rattle.blocked_bitpacker.specs.Parts.{Stretch}
use Rattle.blocked_bitpacker.proofs.Judged.{neither}
use Rattle.blocked_bitpacker.proofs.ReadingLaws.{Whole, in_part, place_below}

-- ---- how many indexes there are

pub count_small : (s : BlockedBitpacker) → SoundIn s → count_of s ≤ 128 * 16777216 + 127
unfolding count_of
count_small s sound = go (is_closed s)
  where
    go : (closed : Bool) → cond closed (128 * (s.blocks - 1) + s.last_length) (128 * s.blocks + s.waiting) ≤ 128 * 16777216 + 127
    go true = omega (arith, sound.few_blocks, sound.short_last)
    go false = omega (arith, sound.few_blocks, sound.few_waiting)

-- ---- the values from an index on

module _ (s : BlockedBitpacker) (bytes entries : List ℕ) where
  pub length-values_of : (i n : ℕ) → length (values_of s bytes entries i n) ≡ n
  unfolding values_of
  length-values_of i zero = refl
  length-values_of i (suc n) = ap suc (length-values_of (i + 1) n)

  pub get_or-values_of : (i n j : ℕ) → j < n → get_or (values_of s bytes entries i n) j 0 ≡ value_of s bytes entries (i + j)
  unfolding values_of
  get_or-values_of i zero j h = absurd (omega arith)
  get_or-values_of i (suc n) zero h = ap (value_of s bytes entries) (omega arith)
  get_or-values_of i (suc n) (suc j) h = get_or-values_of (i + 1) n j (omega arith) ∙ ap (value_of s bytes entries) (omega arith)

  -- a stretch is one stretch and the next
  pub values_of-add : (i n m : ℕ) → values_of s bytes entries i (n + m) ≡ values_of s bytes entries i n ++ values_of s bytes entries (i + n) m
  unfolding values_of
  values_of-add i zero m = ap₂ (λ k j. values_of s bytes entries j k) (zero-add m) (sym (add-zero i))
  values_of-add i (suc n) m =
      ap (values_of s bytes entries i) (suc-add n m)
      ∙ ap (λ l. value_of s bytes entries i ∷ l)
      (values_of-add (i + 1) n m ∙ ap (λ k. values_of s bytes entries (i + 1) n ++ values_of s bytes entries k m) (omega arith))

  -- what has the elements is the list
  values_are : (i n : ℕ) (vs : List ℕ) → length vs ≡ n → ((j : ℕ) → j < n → get_or vs j 0 ≡ value_of s bytes entries (i + j)) → vs ≡ values_of s bytes entries i n
  values_are i n vs many each =
      ext_get_or 0 vs (values_of s bytes entries i n) (many ∙ sym (length-values_of i n))
      (λ j h. let below : j < n = omega arith in each j below ∙ sym (get_or-values_of i n j below))

-- ---- one stretch

get_or_changed : (f : ℕ → ℕ) (vs : List ℕ) (j : ℕ) → j < length vs → get_or (map f vs) j 0 ≡ f (get_or vs j 0)
get_or_changed f [] j h = absurd (omega arith)
get_or_changed f (v ∷ vs) zero h = refl
get_or_changed f (v ∷ vs) (suc j) h = get_or_changed f vs j (omega arith)

module _ (s : BlockedBitpacker) (bytes : List ℕ) {i n : ℕ} {entries : List ℕ} (here : Stretch s i n entries) where
  -- it lies in the block of its first index, at the place of that and the next ones
  same_block : (j : ℕ) → j < n → (i + j) / 128 ≡ i / 128
  same_block j h = omega (arith, here.together)

  next_place : (j : ℕ) → j < n → (i + j) % 128 ≡ i % 128 + j
  next_place j h = omega (arith, here.together)

  -- the values that wait
  pub waiting_values_lem : (out : List ℕ) → s.blocks ≤ i / 128 → length out ≡ n
      → ((j : ℕ) → j < n → get_or out j 0 ≡ get_or s.buffer (i % 128 + j) 0) → out ≡ values_of s bytes entries i n
  unfolding value_of
  waiting_values_lem out behind many each =
      values_are s bytes entries i n out many
      (λ j h.
      each j h
      ∙ sym (simp (same_block j h, next_place j h, le-ltb (i / 128) s.blocks behind)))

  -- where they are that part of the buffer
  pub waiting_part : (out : List ℕ) → s.blocks ≤ i / 128 → length out ≡ n → out ≡ take n (drop (i % 128) s.buffer) → out ≡ values_of s bytes entries i n
  waiting_part out behind many is =
      waiting_values_lem out behind many
      (λ j h. ap (λ l. get_or l j 0) is ∙ get_or-take n (drop (i % 128) s.buffer) j 0 h ∙ get_or-drop (i % 128) s.buffer j 0)

  -- the values of a block
  within_block : i / 128 < s.blocks → i % 128 + n ≤ length_of_block s (i / 128)
  within_block there =
      let last = n - 1 in
      let inside : last < n = omega (arith, here.some) in
      let below : (i + last) % 128 < length_of_block s ((i + last) / 128) =
      place_below s (i + last) (omega (arith, here.some, here.counted)) (omega (arith, same_block last inside)) in
      omega (arith, subst (λ k. (i + last) % 128 < length_of_block s k) (same_block last inside) below, next_place last inside)

  pub block_values : (there : i / 128 < s.blocks) → Whole s.used (length_of_block s (i / 128)) (i / 128) entries → s.used ≤ length bytes
      → (out : List ℕ) → length out ≡ n
      → read_of (entry_base (i / 128) entries) (entry_width (i / 128) entries) (i % 128) (rest_from (entry_offset (i / 128) entries) bytes) out
      ≡ range done (values_of s bytes entries i n)
  unfolding read_of value_of block_value
  block_values there block used out many =
      let k = i / 128 in
      let w = entry_width k entries in
      let part = drop (entry_offset k entries) bytes in
      let lies : (i % 128 + n) * w ≤ 8 * length part = in_part block bytes used (i % 128 + n) (within_block there) in
      let vs = values_from w (i % 128) n part in
      let raise = above_base (entry_base k entries) in
      let read : map raise vs ≡ values_of s bytes entries i n =
      values_are s bytes entries i n (map raise vs) (length-map vs raise ∙ length-values_from w (i % 128) n part)
      (λ j h.
      get_or_changed raise vs j (omega (arith, length-values_from w (i % 128) n part))
      ∙ ap raise (get_or-values_from w (i % 128) n part j h)
      ∙ sym (simp (same_block j h, next_place j h, lt-ltb (i / 128) s.blocks there))) in
      rw rest_from_is (simp (block.legal, many, ne_eqb n 0 (λ none. omega (arith, here.some)), le-leb ((i % 128 + n) * w) (8 * length part) lies) (ap (range done) read))

  -- what reading them answers and leaves
  pub block_read : (there : i / 128 < s.blocks) → Whole s.used (length_of_block s (i / 128)) (i / 128) entries → s.used ≤ length bytes
      → (out : List ℕ) → length out ≡ n → {base w at : ℕ} → at ≡ entry_offset (i / 128) entries → w ≡ entry_width (i / 128) entries
      → base ≡ entry_base (i / 128) entries → (r : Result (Unit {0}) Refusal) (ys : List ℕ) → range r ys ≡ read_of base w (i % 128) (rest_from at bytes) out
      → range r ys ≡ range done (values_of s bytes entries i n)
  block_read there block used out many {base} {w} {at} offset width base-is r ys ensured =
      let reads : ℕ → ℕ → ℕ → Range = λ b v from. read_of b v (i % 128) (rest_from from bytes) out in
      ensured
      ∙ ap (λ b. reads b w at) base-is
      ∙ ap₂ (reads (entry_base (i / 128) entries)) width offset
      ∙ block_values there block used out many

-- ---- entries that are damaged, and entries that are not

-- one block after the other, up to a last one
pub blocks_next : (s : BlockedBitpacker) (entries : List ℕ) (k last : ℕ) → k < last
    → damaged_blocks s entries k (last - k) ≡ (damaged_entry s.used (length_of_block s k) k entries || damaged_blocks s entries (k + 1) (last - (k + 1)))
unfolding damaged_blocks
blocks_next s entries k last more =
    let one_more : last - k ≡ suc (last - (k + 1)) = omega arith in
    ap (damaged_blocks s entries k) one_more

pub blocks_none : (s : BlockedBitpacker) (entries : List ℕ) (k last : ℕ) → last ≤ k → damaged_blocks s entries k (last - k) ≡ false
unfolding damaged_blocks
blocks_none s entries k last done =
    let none : last - k ≡ 0 = omega arith in
    ap (damaged_blocks s entries k) none

fine_blocks : (s : BlockedBitpacker) (entries : List ℕ) (k n : ℕ) → damaged_blocks s entries k n ≡ false
    → (j : ℕ) → k ≤ j → j < k + n → damaged_entry s.used (length_of_block s j) j entries ≡ false
unfolding damaged_blocks
fine_blocks s entries k zero fine j from to = absurd (omega arith)
fine_blocks s entries k (suc n) fine j from to =
    let both = neither (damaged_entry s.used (length_of_block s k) k entries) (damaged_blocks s entries (k + 1) n) fine in
    ⊎_elim (λ le. subst (λ m. damaged_entry s.used (length_of_block s m) m entries ≡ false) (le_antisymm from le) both.0)
    (λ more. fine_blocks s entries (k + 1) n both.1 j (omega arith) (omega arith)) (le_or_lt j k)

-- where no touched entry is damaged, that of an index in the range is not
pub touched_fine : (s : BlockedBitpacker) (entries : List ℕ) (start end : ℕ) → touched_damaged s entries start end ≡ false
    → (i : ℕ) → start ≤ i → i < end → i / 128 < s.blocks → damaged_entry s.used (length_of_block s (i / 128)) (i / 128) entries ≡ false
unfolding touched_damaged
touched_fine s entries start end fine i from to there =
    fine_blocks s entries (start / 128) (min ((end + 127) / 128) s.blocks - start / 128) fine (i / 128) (omega arith) (omega arith)

-- ---- one stretch after the other

-- The next stretch of a range: as many indexes as lie in the block of the first.
pub stretch_next : (s : BlockedBitpacker) (entries : List ℕ) (start end i left n : ℕ) → touched_damaged s entries start end ≡ false
    → end ≤ count_of s → start ≤ i → 0 < left → i + left ≡ end → n ≡ min (128 - i % 128) left → Stretch s i n entries
stretch_next s entries start end i left n fine counted from some to size =
    record { some = omega arith; together = omega arith; counted = omega arith; fine = touched_fine s entries start end fine i from (omega arith) }

-- The part of a range that lies in one block, which is not past its end.
pub stretch_of_block : (s : BlockedBitpacker) (entries : List ℕ) (start end k from n : ℕ) → touched_damaged s entries start end ≡ false
    → end ≤ count_of s → start < end → start / 128 ≤ k → 128 * k < end → from ≡ max start (128 * k) → from + n ≡ min end (128 * (k + 1))
    → Stretch s from n entries
stretch_of_block s entries start end k from n fine counted some first before is ends =
    record {
      some = omega arith;
      together = omega arith;
      counted = omega arith;
      fine = touched_fine s entries start end fine from (omega arith) (omega arith);
    }

-- The output is filled up to `done`, and the stretch that follows is put behind that, up to `next`.
pub fill_next : (s : BlockedBitpacker) (bytes entries out ys : List ℕ) (start done next : ℕ) → done ≤ next → next ≤ length out
    → take done out ≡ values_of s bytes entries start done → ys ≡ values_of s bytes entries (start + done) (length (mid_of done (next - done) out))
    → take next (put_mid done (next - done) out ys) ≡ values_of s bytes entries start next
fill_next s bytes entries out ys start done next onwards within filled read =
    let n = next - done in
    let front = take done out in
    let stretch : ys ≡ values_of s bytes entries (start + done) n = read ∙ ap (values_of s bytes entries (start + done)) (mid_len done next out within) in
    let size : length (front ++ ys) ≡ next =
    length-append front ys
    ∙ ap₂ ◌+◌ (length-take-le done out (omega arith)) (ap length stretch ∙ length-values_of s bytes entries (start + done) n)
    ∙ omega arith in
    ap (take next) (sym (append_assoc front ys (post_of done n out)))
    ∙ take_at (front ++ ys) (post_of done n out) next size
    ∙ ap₂ ◌++◌ filled stretch
    ∙ sym (values_of-add s bytes entries start done n)
    ∙ ap (values_of s bytes entries start) (omega arith)

-- as `fill_next` says it of an output that is filled up to an index `from`, and the part up to an index `to` behind that
pub fill_part : (s : BlockedBitpacker) (bytes entries out ys : List ℕ) (start from to : ℕ) {done next : ℕ} → start ≤ from → from ≤ to → to - start ≤ length out
    → done ≡ from - start → next ≡ to - start → take done out ≡ values_of s bytes entries start done
    → ys ≡ values_of s bytes entries from (length (mid_of (from - start) (to - start - (from - start)) out))
    → take next (put_mid (from - start) (to - start - (from - start)) out ys) ≡ values_of s bytes entries start next
fill_part s bytes entries out ys start from to first onwards within done-is next-is filled read =
    let before = from - start in
    let after = to - start in
    let whole = put_mid before (after - before) out ys in
    subst (λ n. take n whole ≡ values_of s bytes entries start n) (sym next-is)
    (fill_next s bytes entries out ys start before after (omega arith) within
    (subst (λ n. take n out ≡ values_of s bytes entries start n) done-is filled)
    (read ∙ ap (λ i. values_of s bytes entries i (length (mid_of before (after - before) out))) (omega arith)))

pub fill_none : (s : BlockedBitpacker) (bytes entries out : List ℕ) (start filled : ℕ) → filled ≡ 0 → take filled out ≡ values_of s bytes entries start filled
unfolding values_of
fill_none s bytes entries out start filled none = subst (λ n. take n out ≡ values_of s bytes entries start n) (sym none) refl
