-- What the unpacker's operations come to in numbers: the eight bytes of a word are the number that they stand for, what the two checks let
-- through is sound, a mask is a remainder, and a stretch is filled value by value.
use mathlib.Core.Path.{◌≡◌, refl, sym, ap, ap₂, ◌∙◌, subst}
use mathlib.Core.Logic.{⊎_elim}
use mathlib.Core.Bool.{Bool, true, false, cond}
use mathlib.Core.List.{List, [], ◌∷◌, ◌++◌, map, append-nil}
use Prim.Native.Nat.{ℕ, zero, suc, ◌+◌, ◌-◌, ◌*◌, ◌/◌, ◌%◌, ◌^◌, ◌≤◌, ◌<◌, min}
use native.Mathlib.Nat.{mul_assoc, add-mul, mul-le-mul, lt_of_lt_of_le, mod-eq_of_lt, add_comm, one-mul, add-zero, suc-mul, le_antisymm, mul-le-mul_right}
use native.Mathlib.Numerals.{add-one}
use native.Mathlib.Omega.{arith}
use lib.Dec.{leb}
use lib.Bits.{bit_or, bit_and, or_shifted_r, and_mask}
use lib.Pow.{pow_mono, pow_pos, pow-lt, shl_exact}
use lib.ListN.{length, get_or, take, drop, replicate, set, length-append, length-drop, length-replicate}
use lib.Seq.{set_at, append_snoc, drop-cons, drop-length, take_all}
use borrow.Author.Tests.{eqb-true, not-false, le-leb, lt-leb}
use Rattle.std.specs.Prelude.{Err}
use Rattle.std.specs.Int.{from_le_bytes}
use Rattle.std.proofs.Common.{drop_of_length-le, le_of_lt, w64}
use Rattle.std.proofs.lemmas.List.{length-map, map-append, drop-replicate}
use Rattle.refusal.specs.declared.Refusal.{Refusal}
use Rattle.refusal.specs.declared.Refusal.TheVariants.{BadWidth, Damaged}
use Rattle.refusal.specs.Done.{done}
use Rattle.bit_rule.specs.Bytes.{AreBytes, number, bytes_for}
use Rattle.bit_rule.specs.Place.{value_at, values_from}
use Rattle.bit_rule.proofs.Width.{le_or_lt, legal_le}
use Rattle.bit_rule.proofs.Bytes.{pow_bytes, number_lt, number_append, window_word}
use Rattle.bit_rule.proofs.Place.{bits_at_load, drop_are_bytes, legal_span, length-values_from, values_from_then, value_at-lt}
use Rattle.bitunpacker.specs.declared.BitUnpacker.{BitUnpacker}
use Rattle.bitunpacker.specs.Parts.{checked}
use Rattle.bitunpacker.specs.Unpacker.{mask_of, bad_width, damaged_mask, Sound}

-- ---- the load

-- a byte put above k bits
or_byte : (k lo b : ℕ) → lo < 2 ^ k → b < 256 → k + 8 ≤ 64 → bit_or lo ((b * 2 ^ k) % 2 ^ 64) ≡ lo + b * 2 ^ k
or_byte k lo b below byte room =
    ap (bit_or lo) (shl_exact 8 k 64 byte (omega arith)) ∙ or_shifted_r b k lo below ∙ add_comm (b * 2 ^ k) lo

module _ (b₀ b₁ b₂ b₃ b₄ b₅ b₆ b₇ : ℕ)
    (h₀ : b₀ < 256) (h₁ : b₁ < 256) (h₂ : b₂ < 256) (h₃ : b₃ < 256) (h₄ : b₄ < 256) (h₅ : b₅ < 256) (h₆ : b₆ < 256) (h₇ : b₇ < 256) where
  pub word_of_bytes :
      bit_or
      (bit_or
      (bit_or
      (bit_or
      (bit_or (bit_or (bit_or b₀ ((b₁ * 2 ^ 8) % 2 ^ 64)) ((b₂ * 2 ^ 16) % 2 ^ 64)) ((b₃ * 2 ^ 24) % 2 ^ 64))
      ((b₄ * 2 ^ 32) % 2 ^ 64))
      ((b₅ * 2 ^ 40) % 2 ^ 64))
      ((b₆ * 2 ^ 48) % 2 ^ 64))
      ((b₇ * 2 ^ 56) % 2 ^ 64)
      ≡ b₀ + 256 * (b₁ + 256 * (b₂ + 256 * (b₃ + 256 * (b₄ + 256 * (b₅ + 256 * (b₆ + 256 * b₇))))))
  word_of_bytes =
      let s₁ = b₀ + b₁ * 2 ^ 8 in
      let s₂ = s₁ + b₂ * 2 ^ 16 in
      let s₃ = s₂ + b₃ * 2 ^ 24 in
      let s₄ = s₃ + b₄ * 2 ^ 32 in
      let s₅ = s₄ + b₅ * 2 ^ 40 in
      let s₆ = s₅ + b₆ * 2 ^ 48 in
      let e₁ = or_byte 8 b₀ b₁ h₀ h₁ (omega arith) in
      let e₂ = ap (λ x. bit_or x ((b₂ * 2 ^ 16) % 2 ^ 64)) e₁ ∙ or_byte 16 s₁ b₂ (omega arith) h₂ (omega arith) in
      let e₃ = ap (λ x. bit_or x ((b₃ * 2 ^ 24) % 2 ^ 64)) e₂ ∙ or_byte 24 s₂ b₃ (omega arith) h₃ (omega arith) in
      let e₄ = ap (λ x. bit_or x ((b₄ * 2 ^ 32) % 2 ^ 64)) e₃ ∙ or_byte 32 s₃ b₄ (omega arith) h₄ (omega arith) in
      let e₅ = ap (λ x. bit_or x ((b₅ * 2 ^ 40) % 2 ^ 64)) e₄ ∙ or_byte 40 s₄ b₅ (omega arith) h₅ (omega arith) in
      let e₆ = ap (λ x. bit_or x ((b₆ * 2 ^ 48) % 2 ^ 64)) e₅ ∙ or_byte 48 s₅ b₆ (omega arith) h₆ (omega arith) in
      let e₇ = ap (λ x. bit_or x ((b₇ * 2 ^ 56) % 2 ^ 64)) e₆ ∙ or_byte 56 s₆ b₇ (omega arith) h₇ (omega arith) in
      e₇ ∙ omega arith

-- The number that std makes of a word's eight bytes is the one that they stand for.
pub word_number : (word : List ℕ) → length word ≡ 8 → from_le_bytes w64 word ≡ number word
word_number word eight =
    let whole : take 8 word ≡ word = take_all 8 word (omega arith) in
    omega (arith, window_word 0 word, ap number whole)

-- bytes that are 0 behind some bytes add nothing
number-zeros : (k : ℕ) → number (replicate k 0) ≡ 0
unfolding number
number-zeros zero = refl
number-zeros (suc k) = omega (arith, number-zeros k)

number-padded : (bs : List ℕ) (k : ℕ) → number (bs ++ replicate k 0) ≡ number bs
number-padded bs k = number_append bs (replicate k 0) ∙ ap (λ n. number bs + 256 ^ length bs * n) (number-zeros k) ∙ omega arith

-- the bytes from a place on, where a place past the end is brought down to it
rest_at : (at : ℕ) (bs : List ℕ) → drop (min at (length bs)) bs ≡ drop at bs
rest_at at bs =
    ⊎_elim
    (λ inside. let here : min at (length bs) ≡ at = omega arith in ap (λ k. drop k bs) here)
    (λ past.
    let end : min at (length bs) ≡ length bs = omega arith in
    ap (λ k. drop k bs) end ∙ drop-length bs ∙ sym (drop_of_length-le bs (le_of_lt past)))
    (le_or_lt at (length bs))

-- The word that holds the bytes from a place near the end on, and zeros behind them.
pub tail_number : (at m : ℕ) (bs front : List ℕ) → length bs < at + 8 → m ≡ min at (length bs) → front ≡ take (length bs - m) (drop m bs)
    → from_le_bytes w64 (front ++ drop (length (take (length bs - m) (drop m bs))) (replicate 8 0)) ≡ number (take 8 (drop at bs))
tail_number at m bs front short here is =
    let rest : take (length bs - m) (drop m bs) ≡ drop at bs =
    take_all (length bs - m) (drop m bs) (simp length-drop (omega arith)) ∙ ap (λ k. drop k bs) here ∙ rest_at at bs in
    let tail = drop at bs in
    let n = length tail in
    let few : n ≤ 8 = simp length-drop (omega arith) in
    let word : front ++ drop (length (take (length bs - m) (drop m bs))) (replicate 8 0) ≡ tail ++ replicate (8 - n) 0 =
    ap₂ (λ l k. l ++ drop k (replicate 8 0)) (is ∙ rest) (ap length rest) ∙ ap (λ l. tail ++ l) (drop-replicate n 8 0) in
    let eight : length (tail ++ replicate (8 - n) 0) ≡ 8 = simp (length-append, length-replicate) (omega arith) in
    ap (λ l. from_le_bytes w64 l) word ∙ word_number (tail ++ replicate (8 - n) 0) eight ∙ number-padded tail (8 - n) ∙ ap number (sym (take_all 8 tail few))

-- what is left of some bytes from byte i on is small where few are left
pub drop-number-lt : (k i : ℕ) (bs : List ℕ) → AreBytes bs → length bs ≤ i + k → number (drop i bs) < 2 ^ (8 * k)
drop-number-lt k i bs bytes few =
    lt_of_lt_of_le (subst (λ x. number (drop i bs) < x) (pow_bytes (length (drop i bs))) (number_lt (drop i bs) (drop_are_bytes i bs bytes)))
    (pow_mono (let left : length (drop i bs) ≤ k = simp length-drop (omega arith) in omega arith))

-- one byte more in front
pub drop-number-cons : (i : ℕ) (bs : List ℕ) → i < length bs → number (drop i bs) ≡ get_or bs i 0 + 256 * number (drop (suc i) bs)
unfolding number
drop-number-cons i bs within = ap number (drop-cons bs i 0 within)

-- ---- the mask

-- a 1 moved up and brought down by one
pub one_shifted : (w : ℕ) → w < 64 → (1 * 2 ^ w) % 2 ^ 64 ≡ 2 ^ w
one_shifted w narrow = ap (λ x. x % 2 ^ 64) (one-mul (2 ^ w)) ∙ mod-eq_of_lt (pow-lt narrow)

pub mask_lt : (w : ℕ) → mask_of w < 2 ^ w
mask_lt w = omega (arith, pow_pos w)

-- ---- the two checks that every call begins with

-- A call whose list of checks begins with the two: what it answers where one of them holds, and where neither does.
abbrev pub begins_with_both : {A : Type 0} → BitUnpacker → (Refusal → A) → A → A
begins_with_both u refuse rest = cond (bad_width u) (refuse BadWidth) (cond (damaged_mask u) (refuse Damaged) rest)

pub refused : {A : Type 0} (u : BitUnpacker) (refusal : Refusal) (refuse : Refusal → A) (rest : A) → checked u ≡ Err refusal
    → begins_with_both u refuse rest ≡ refuse refusal
unfolding checked
refused {A} u refusal refuse rest = go (bad_width u) (damaged_mask u)
  where
    go : (bad damaged : Bool) → cond bad (Err BadWidth) (cond damaged (Err Damaged) done) ≡ Err refusal
        → cond bad (refuse BadWidth) (cond damaged (refuse Damaged) rest) ≡ refuse refusal
    go true damaged is = cc
    go false true is = cc
    go false false is = cc

pub passed : {A : Type 0} (u : BitUnpacker) (refuse : Refusal → A) (rest : A) → checked u ≡ done → begins_with_both u refuse rest ≡ rest
unfolding checked
passed {A} u refuse rest = go (bad_width u) (damaged_mask u)
  where
    go : (bad damaged : Bool) → cond bad (Err BadWidth) (cond damaged (Err Damaged) done) ≡ done
        → cond bad (refuse BadWidth) (cond damaged (refuse Damaged) rest) ≡ rest
    go true damaged is = cc
    go false true is = cc
    go false false is = refl

-- what neither refuses is sound
pub sound : (u : BitUnpacker) → checked u ≡ done → Sound u
unfolding checked
sound u is = record { legal = not-false _ (both (bad_width u) (damaged_mask u) is).0; masked = eqb-true _ _ (not-false _ (both (bad_width u) (damaged_mask u) is).1) }
  where
    both : (bad damaged : Bool) → cond bad (Err BadWidth) (cond damaged (Err Damaged) done) ≡ done → (bad ≡ false) × (damaged ≡ false)
    both true damaged is = cc
    both false true is = cc
    both false false is = (refl, refl)

-- The value at index i, from the eight bytes at its place.
pub read_value : (u : BitUnpacker) (i at shift : ℕ) (bs : List ℕ) → AreBytes bs → Sound u → 8 * at + shift ≡ i * u.num_bits → shift < 8
    → bit_and (number (take 8 (drop at bs)) / 2 ^ shift) u.mask ≡ value_at u.num_bits i bs
unfolding value_at
read_value u i at shift bs bytes good place low =
    let w = u.num_bits in
    let eight = number (take 8 (drop at bs)) / 2 ^ shift in
    let byte : at ≡ i * w / 8 = omega arith in
    let bit : shift ≡ i * w % 8 = omega arith in
    ap (bit_and eight) good.masked
    ∙ and_mask eight w
    ∙ ap₂ (λ a s. number (take 8 (drop a bs)) / 2 ^ s % 2 ^ w) byte bit
    ∙ sym (bits_at_load (i * w) w bs bytes (legal_span w i good.legal))

-- and it fits every width that is no narrower
pub read_fits : {v w : ℕ} (i k : ℕ) (bs : List ℕ) → v ≡ value_at w i bs → w ≤ k → v < 2 ^ k
read_fits {v} {w} i k bs is narrow = lt_of_lt_of_le (subst (λ x. x < 2 ^ w) (sym is) (value_at-lt w i bs)) (pow_mono narrow)

-- how far into the bits an index of 32 bits can be
pub index_fits : (i : ℕ) (u : BitUnpacker) → i < 2 ^ 32 → Sound u → (i * u.num_bits ≤ (2 ^ 32 - 1) * 64) × (u.num_bits ≤ 64)
index_fits i u small good = let narrow : u.num_bits ≤ 64 = legal_le _ good.legal in let most : i ≤ 2 ^ 32 - 1 = omega arith in (mul-le-mul most narrow, narrow)

-- ---- a column's bytes

-- n values of width w, eight of which take w bytes
pub eights : (n w : ℕ) → n * w ≡ 8 * (n / 8 * w) + n % 8 * w
eights n w =
    ap (λ k. k * w) (omega arith)
    ∙ add-mul (8 * (n / 8)) (n % 8) w
    ∙ ap (λ k. k + n % 8 * w) (mul_assoc 8 (n / 8) w)

pub column_law : (n w : ℕ) → n / 8 * w + (n % 8 * w + 7) / 8 ≡ bytes_for (n * w)
column_law n w = omega (arith, eights n w)

-- how large the parts of the sum `n / 8 * w + n % 8 * w / 8` can be
pub column_fits : (n w : ℕ) → n < 2 ^ 61 → w ≤ 64 → n / 8 * w ≤ (2 ^ 58 - 1) * 64
column_fits n w few narrow = let eighths : n / 8 ≤ 2 ^ 58 - 1 = omega arith in mul-le-mul eighths narrow

pub lead_fits : (n w : ℕ) → w ≤ 64 → n % 8 * w ≤ 7 * 64
lead_fits n w narrow = let rest : n % 8 ≤ 7 = omega arith in mul-le-mul rest narrow

-- bits lie in some bytes exactly where those are as many as the bits take
pub inside : (bits len : ℕ) {taken : ℕ} → taken ≡ bytes_for bits → taken ≤ len → leb bits (8 * len) ≡ true
inside bits len is room = le-leb bits (8 * len) (omega arith)

pub outside : (bits len : ℕ) {taken : ℕ} → taken ≡ bytes_for bits → len < taken → leb bits (8 * len) ≡ false
outside bits len is short = lt-leb bits (8 * len) (omega arith)

-- ---- a stretch of values written one after the other, whatever the output's elements

module _ {A : Type 0} (holding : ℕ → A) (w start : ℕ) (bs : List ℕ) (out₀ : List A) where
  -- After i values from index `start` on: the output begins with them, and the next one starts at bit `shift` of byte `at`.
  pub record Filling (out : List A) (at shift i : ℕ) : Type 0 where
    pub low : shift < 8
    pub place : 8 * at + shift ≡ (start + i) * w
    pub so_far : out ≡ map holding (values_from w start i bs) ++ drop i out₀

  pub filling_starts : Filling out₀ (start / 8 * w + start % 8 * w / 8) (start % 8 * w % 8) 0
  unfolding values_from
  filling_starts =
      record {
        low = omega arith;
        place = omega (arith, eights start w, ap (λ k. k * w) (add-zero start));
        so_far = refl;
      }

  pub filling_goes_on : (out : List A) (at shift i v : ℕ) → Filling out at shift i → i < length out₀ → v ≡ value_at w (start + i) bs
      → Filling (set out i (holding v)) (at + (shift + w) / 8) ((shift + w) % 8) (i + 1)
  filling_goes_on out at shift i v before more is =
      let vs = values_from w start i bs in
      let front = map holding vs in
      let count : length front ≡ i = length-map vs holding ∙ length-values_from w start i bs in
      let next : (start + (i + 1)) * w ≡ (start + i) * w + w = ap (λ k. k * w) (omega arith) ∙ suc-mul (start + i) w in
      let one_more : map holding (values_from w start (i + 1) bs) ≡ front ++ holding v ∷ [] =
      ap (map holding) (values_from_then w start i bs ∙ ap (λ x. vs ++ x ∷ []) (sym is)) ∙ map-append holding vs (v ∷ []) in
      record {
        low = omega arith;
        place = omega (arith, before.place, next);
        so_far =
            ap (λ l. set l i (holding v)) before.so_far
            ∙ ap (λ l. set (front ++ l) i (holding v)) (drop-cons out₀ i (holding v) more)
            ∙ set_at front (get_or out₀ i (holding v)) (drop (suc i) out₀) (holding v) i count
            ∙ sym (append_snoc front (holding v) (drop (suc i) out₀))
            ∙ ap₂ (λ l k. l ++ drop k out₀) (sym one_more) (sym (add-one i));
      }

  pub filling_ends : (out : List A) (at shift i : ℕ) → Filling out at shift i → i ≤ length out₀ → length out₀ ≤ i
      → out ≡ map holding (values_from w start (length out₀) bs)
  filling_ends out at shift i all within done =
      let front = map holding (values_from w start (length out₀) bs) in
      all.so_far
      ∙ ap (λ k. map holding (values_from w start k bs) ++ drop k out₀) (le_antisymm within done)
      ∙ ap (λ l. front ++ l) (drop-length out₀)
      ∙ append-nil front

  -- the place stays in the data, where the whole stretch does
  pub filling_inside : (out : List A) (at shift i n len : ℕ) → Filling out at shift i → (start + n) * w ≤ 8 * len → i ≤ n → 8 * at ≤ 8 * len
  filling_inside out at shift i n len here whole few =
      let reached : (start + i) * w ≤ (start + n) * w = mul-le-mul_right w (omega arith) in
      omega (arith, here.place)
