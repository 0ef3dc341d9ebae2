-- A list of words of eight bytes: std's numbers of its chunks are the values of 64 bits that lie in it; whether one is too wide; and that words
-- of which none is too wide fit the width.
use Rattle.std.specs.Prelude.{Ok}
use Rattle.std.specs.Int.{from_le_bytes, w64}
use Rattle.std.specs.List.{list_any}
use Rattle.std.specs.Simd.{first_chunks}
use mathlib.Core.Path.{◌≡◌, refl, sym, ap, ap₂, ◌∙◌}
use mathlib.Core.Bool.{Bool, true, false, ◌||◌}
use mathlib.Core.List.{List, [], ◌∷◌, map}
use Prim.Native.Nat.{ℕ, zero, suc, ◌+◌, ◌*◌, ◌/◌, ◌%◌, ◌^◌, ◌≤◌, ◌<◌, ◌-◌}
use native.Mathlib.Nat.{sub-zero, div-one}
use native.Mathlib.Numerals.{add-one}
use native.Mathlib.Omega.{arith}
use lib.Dec.{leb}
use lib.ListN.{length, get_or, take, drop, length-drop, length-map}
use lib.Seq.{length-take-le}
use borrow.Author.Tests.{le-leb, leb-false}
use Rattle.bit_rule.specs.Bytes.{AreBytes, number}
use Rattle.bit_rule.specs.Stream.{Fit, of_width}
use Rattle.bit_rule.specs.Place.{bits_at, value_at, values_from}
use Rattle.bit_rule.proofs.Bytes.{number-take, word_number}
use Rattle.bit_rule.proofs.Place.{length-values_from, get_or-values_from, value_at-drop, values_from-drop, drop_are_bytes}
use Rattle.bit_rule.proofs.Parts.{rest_from, rest_from_is, length-rest_from}
use Rattle.bitunpacker.specs.declared.BitUnpacker.{BitUnpacker}
use Rattle.bitunpacker.specs.Unpacker.{new_of, get_of}
use Rattle.block.specs.Block.{differences}
use Rattle.block.proofs.Reading.{new_says}
use Rattle.stumpvessel.specs.Host.{words_of, any_too_wide}

-- ---- the words

-- the numbers of some words
abbrev pub numbers_of : List (List ℕ) → List ℕ
numbers_of words = map (from_le_bytes w64) words

bytes_as_number : (list : List ℕ) → number list / 2 ^ (0 * 64) % 2 ^ 64 ≡ number list % 256 ^ 8
bytes_as_number list = ap (λ n. n % 2 ^ 64) (div-one (number list))

first_word : (list : List ℕ) → AreBytes list → 8 ≤ length list → from_le_bytes w64 (take 8 list) ≡ value_at 64 0 list
unfolding value_at bits_at
first_word list bytes there =
    word_number (take 8 list) (length-take-le 8 list there) ∙ number-take 8 list bytes ∙ sym (bytes_as_number list)

chunks_from : (n : ℕ) (list : List ℕ) → AreBytes list → 8 * n ≤ length list → numbers_of (first_chunks 8 n list) ≡ values_from 64 0 n list
unfolding values_from
chunks_from zero list bytes there = refl
chunks_from (suc n) list bytes there =
    ap₂ (λ v l. v ∷ l) (first_word list bytes (omega arith))
    (chunks_from n (drop 8 list) (drop_are_bytes 8 list bytes) (omega (arith, length-drop 8 list)) ∙ values_from-drop 64 8 1 0 n list bytes refl)

pub chunks_are_words : (list : List ℕ) → AreBytes list → numbers_of (first_chunks 8 (length list / 8) list) ≡ words_of list
unfolding words_of
chunks_are_words list bytes = chunks_from (length list / 8) list bytes (omega arith)

pub word_of_part : (list : List ℕ) (i : ℕ) → AreBytes list → 8 * (i + 1) ≤ length list → (u : BitUnpacker) → Ok u ≡ new_of 64
    → get_of u 0 (rest_from (8 * i) list) ≡ Ok (value_at 64 i list)
unfolding get_of
word_of_part list i are-bytes there u made =
    let part = rest_from (8 * i) list in
    let starts : 8 * (8 * i) ≡ i * 64 = omega arith in
    ap (λ v. get_of v 0 part) (new_says 64 (Ok u) made).1
    ∙ rw (le-leb ((0 + 1) * 64) (8 * length part) (omega (arith, length-rest_from (8 * i) list)))
    (ap Ok (ap (value_at 64 0) (rest_from_is (8 * i) list) ∙ value_at-drop 64 (8 * i) i 0 list are-bytes starts ∙ ap (λ k. value_at 64 k list) (omega arith)))

pub length-words_of : (list : List ℕ) → length (words_of list) ≡ length list / 8
unfolding words_of
length-words_of list = length-values_from 64 0 (length list / 8) list

pub get_or-words_of : (list : List ℕ) (i : ℕ) → i < length list / 8 → get_or (words_of list) i 0 ≡ value_at 64 i list
unfolding words_of
get_or-words_of list i below = get_or-values_from 64 0 (length list / 8) list i below ∙ ap (λ k. value_at 64 k list) (omega arith)

-- what is written of one is its number
pub word_at : (words : List (List ℕ)) (i : ℕ) (none : List ℕ) → i < length words → get_or (numbers_of words) i 0 - 0 ≡ from_le_bytes w64 (get_or words i none)
word_at [] i none below = absurd (omega arith)
word_at (word ∷ words) zero none below = sub-zero (from_le_bytes w64 word)
word_at (word ∷ words) (suc i) none below = word_at words i none (omega arith)

pub length-numbers_of : (words : List (List ℕ)) → length (numbers_of words) ≡ length words
length-numbers_of words = length-map words (from_le_bytes w64)

-- ---- too wide

pub any_word : (w : ℕ) (words : List (List ℕ)) → list_any (λ word. leb (2 ^ w) (from_le_bytes w64 word)) words ≡ any_too_wide w (numbers_of words)
unfolding any_too_wide
any_word w [] = refl
any_word w (word ∷ words) = ap (λ b. leb (2 ^ w) (from_le_bytes w64 word) || b) (any_word w words)

-- one word more
any_suc : (w : ℕ) (vs : List ℕ) (i : ℕ) → i < length vs → any_too_wide w (take (suc i) vs) ≡ (any_too_wide w (take i vs) || leb (2 ^ w) (get_or vs i 0))
unfolding any_too_wide
any_suc w [] i below = absurd (omega arith)
any_suc w (v ∷ vs) zero below = or-false (leb (2 ^ w) v)
  where
    or-false : (b : Bool) → (b || false) ≡ b
    or-false true = refl
    or-false false = refl
any_suc w (v ∷ vs) (suc i) below = ap (λ b. leb (2 ^ w) v || b) (any_suc w vs i (omega arith)) ∙ sym (or_assoc (leb (2 ^ w) v) (any_too_wide w (take i vs)) (leb (2 ^ w) (get_or vs i 0)))
  where
    or_assoc : (a b c : Bool) → ((a || b) || c) ≡ (a || (b || c))
    or_assoc true b c = refl
    or_assoc false b c = refl

pub any_next : (w : ℕ) (vs : List ℕ) (i : ℕ) → i < length vs → any_too_wide w (take (i + 1) vs) ≡ (any_too_wide w (take i vs) || leb (2 ^ w) (get_or vs i 0))
any_next w vs i below = ap (λ k. any_too_wide w (take k vs)) (add-one i) ∙ any_suc w vs i below

-- one that is too wide is enough
pub any_at : (w : ℕ) (vs : List ℕ) (i : ℕ) → i < length vs → leb (2 ^ w) (get_or vs i 0) ≡ true → any_too_wide w vs ≡ true
unfolding any_too_wide
any_at w [] i below wide = absurd (omega arith)
any_at w (v ∷ vs) zero below wide = ap (λ b. b || any_too_wide w vs) wide
any_at w (v ∷ vs) (suc i) below wide = ap (λ b. leb (2 ^ w) v || b) (any_at w vs i (omega arith) wide) ∙ or-true (leb (2 ^ w) v)
  where
    or-true : (b : Bool) → (b || true) ≡ true
    or-true true = refl
    or-true false = refl

-- ---- what is packed

pub differences_zero : (vs : List ℕ) → differences 0 vs ≡ vs
differences_zero [] = refl
differences_zero (v ∷ vs) = ap₂ (λ x l. x ∷ l) (sub-zero v) (differences_zero vs)

neither : (a b : Bool) → (a || b) ≡ false → (a ≡ false) × (b ≡ false)
neither true b h = absurd (let z : ◌≡◌ {A = ℕ} 0 1 = cc in omega arith)
neither false b h = (refl, h)

pub none_wide_fit : (w : ℕ) (vs : List ℕ) → any_too_wide w vs ≡ false → Fit (of_width w vs)
unfolding any_too_wide
none_wide_fit w [] none = tt
none_wide_fit w (v ∷ vs) none =
    let both = neither (leb (2 ^ w) v) (any_too_wide w vs) none in
    (leb-false (2 ^ w) v both.0, none_wide_fit w vs both.1)
