-- Lowest and highest of those elements of a list that count, as one element more is met: of one that does not count no comparison holds, so that
-- it changes neither, and any other is one more of them, for which the law of `Laws` is cited. And what the answer is at the two types.
use Rattle.std.proofs.Common.{◌≡◌, ℕ, suc, ◌+◌, ◌<◌, ◌≤◌, Bool, true, false, not, cond, ltb, List, [], ◌∷◌, ◌++◌, length, get_or, take, refl, sym, ap, ◌∙◌, arith, append-nil, Some, None}
use mathlib.Core.Bool.{true≢false, false≢true}
use borrow.Author.Tests.{ltb-false}
use lib.Ieee.{nan, inf, fin, ne}
use lib.Ieee.Compare.{differs_from_itself}
use Rattle.std.specs.Prelude.{Float, is_some}
use Rattle.std.specs.List.{filter, position, position_or_len}
use Rattle.std.specs.Float.Ieee.{lt, eq, is_nan}
use Rattle.std.specs.Option.{unwrap_or}
use lib.Seq.{take_all}
use Rattle.std.proofs.lemmas.List.Elements.{filter_more}
use Rattle.std.proofs.lemmas.List.Quantifiers.{position-Some}
use Rattle.num_bits.specs.MinMax.{numbers, minmax_of, minmax_u64, minmax_f64}
use Rattle.num_bits.specs.Order.{Order}
use Rattle.num_bits.specs.Ranked.{every, no_nan, float_order}
use Rattle.num_bits.proofs.Laws.{AllCount, Extremes, extremes_one, extremes_snoc, false_if_never_true}

module _ {A : Type 0} (counts : A → Bool) where
  all_count-filter : (xs : List A) → AllCount counts (filter counts xs)
  all_count-filter [] = tt
  all_count-filter (x ∷ xs) = by_test (counts x) refl (all_count-filter xs)
    where
      by_test : (b : Bool) → counts x ≡ b → AllCount counts (filter counts xs) → AllCount counts (cond b (x ∷ filter counts xs) (filter counts xs))
      by_test true x-counts rest = (x-counts, rest)
      by_test false skipped rest = rest

  -- none of those before the first counts
  filter_before_first : (xs : List A) → filter counts (take (position_or_len counts xs) xs) ≡ []
  filter_before_first [] = refl
  filter_before_first (x ∷ xs) = by_test (counts x) refl (filter_before_first xs)
    where
      by_test : (b : Bool)
          → counts x ≡ b
          → filter counts (take (position_or_len counts xs) xs) ≡ []
          → filter counts (take (cond (not b) (1 + position_or_len counts xs) 0) (x ∷ xs)) ≡ []
      by_test true x-counts rest = refl
      by_test false skipped rest =
          let one_more : 1 + position_or_len counts xs ≡ suc (position_or_len counts xs) = omega arith in
          rw (one_more, skipped) rest

  first_found : (xs : List A) (i : ℕ) → Some i ≡ position counts xs → filter counts (take i xs) ≡ []
  first_found xs i found = by_test (ltb (position_or_len counts xs) (length xs)) found
    where
      by_test : (b : Bool) → Some i ≡ cond b (Some (position_or_len counts xs)) None → filter counts (take i xs) ≡ []
      by_test true is = rw (ap (λ r. unwrap_or r i) is) (filter_before_first xs)
      by_test false is = absurd (true≢false (ap is_some is))

  none_found : (xs : List A) → None ≡ position counts xs → filter counts xs ≡ []
  none_found xs none = by_test (ltb (position_or_len counts xs) (length xs)) refl none
    where
      by_test : (b : Bool) → ltb (position_or_len counts xs) (length xs) ≡ b → None ≡ cond b (Some (position_or_len counts xs)) None → filter counts xs ≡ []
      by_test true found is = absurd (true≢false (sym (ap is_some is)))
      by_test false passed is = ap (filter counts) (sym (take_all (position_or_len counts xs) xs (ltb-false _ _ passed))) ∙ filter_before_first xs

module _ {A : Type 0} {counts : A → Bool} (below : A → A → Bool) (order : Order counts below) where
  -- the first that counts is the lowest and the highest of those up to it
  pub extremes_first : (xs : List A) (i : ℕ) (x : A) → Some i ≡ position counts xs → x ≡ get_or xs i x
      → (i + 1 ≤ length xs) × Extremes below (filter counts (take (i + 1) xs)) x x
  extremes_first xs i x found read =
      let (within, x-counts, before) = position-Some counts xs i x (sym found) in
      (omega arith, rw (filter_more counts xs i x within, first_found counts xs i found, x-counts, ← read) (extremes_one below order x))

  pub extremes_more : ((x y : A) → below x y ≡ true → counts x ≡ true) → ((x y : A) → below x y ≡ true → counts y ≡ true)
      → (xs : List A) (i : ℕ) (x low high : A)
      → i < length xs
      → x ≡ get_or xs i x
      → Extremes below (filter counts (take i xs)) low high
      → Extremes below (filter counts (take (i + 1) xs)) (cond (below x low) x low) (cond (below high x) x high)
  extremes_more left_counts right_counts xs i x low high within read so_far = rw (filter_more counts xs i x within, ← read) (by_test (counts x) refl)
    where
      by_test : (b : Bool) → counts x ≡ b
          → Extremes below (filter counts (take i xs) ++ cond b (x ∷ []) []) (cond (below x low) x low) (cond (below high x) x high)
      by_test true x-counts = extremes_snoc below order (filter counts (take i xs)) x low high (all_count-filter counts (take i xs)) so_far
      by_test false skipped =
          let x≮low : below x low ≡ false = false_if_never_true (below x low) (λ x<low. true≢false (sym (left_counts x low x<low) ∙ skipped)) in
          let high≮x : below high x ≡ false = false_if_never_true (below high x) (λ high<x. true≢false (sym (right_counts high x high<x) ∙ skipped)) in
          rw (append-nil, x≮low, high≮x) so_far

  pub minmax_none : (xs : List A) → None ≡ position counts xs → minmax_of below counts xs ≡ None
  unfolding minmax_of
  minmax_none xs none = rw (none_found counts xs none)

  pub minmax_some : (xs : List A) (low high : A) → Extremes below (filter counts xs) low high → minmax_of below counts xs ≡ Some (low, high)
  unfolding minmax_of
  minmax_some xs low high extremes = rw (extremes.lowest_is, extremes.highest_is)

-- ---- floats

-- a float against itself
pub equal_is_number : (x : Float) → eq x x ≡ true → is_nan x ≡ false
unfolding eq is_nan
equal_is_number nan equal = absurd (false≢true equal)
equal_is_number (inf s) equal = refl
equal_is_number (fin s m e) equal = refl

pub unequal_is_nan : (x : Float) → eq x x ≡ false → x ≡ nan
unfolding ne
unequal_is_nan x unequal = differs_from_itself x (rw unequal tt)

pub none_below_nan : (x : Float) → lt x nan ≡ false
unfolding lt
none_below_nan nan = refl
none_below_nan (inf s) = refl
none_below_nan (fin s m e) = refl

-- the numbers of a list, where one float more is met
numbers_append : (xs ys : List Float) → numbers (xs ++ ys) ≡ numbers xs ++ numbers ys
unfolding numbers
numbers_append [] ys = refl
numbers_append (nan ∷ xs) ys = numbers_append xs ys
numbers_append (inf s ∷ xs) ys = ap (λ (l : List Float). inf s ∷ l) (numbers_append xs ys)
numbers_append (fin s m e ∷ xs) ys = ap (λ (l : List Float). fin s m e ∷ l) (numbers_append xs ys)

pub numbers_nan : (xs : List Float) → numbers (xs ++ nan ∷ []) ≡ numbers xs
unfolding numbers
numbers_nan xs = numbers_append xs (nan ∷ []) ∙ append-nil (numbers xs)

pub numbers_number : (xs : List Float) (x : Float) → is_nan x ≡ false → numbers (xs ++ x ∷ []) ≡ numbers xs ++ x ∷ []
unfolding numbers
numbers_number xs x number = rw (numbers_append xs (x ∷ []), number)

numbers_count : (xs : List Float) → AllCount no_nan (numbers xs)
unfolding numbers is_nan
numbers_count [] = tt
numbers_count (nan ∷ xs) = numbers_count xs
numbers_count (inf s ∷ xs) = (refl, numbers_count xs)
numbers_count (fin s m e ∷ xs) = (refl, numbers_count xs)

number_more : (xs : List Float) (x low high : Float)
    → is_nan x ≡ false
    → Extremes lt (numbers xs) low high
    → Extremes lt (numbers (xs ++ x ∷ [])) (cond (lt x low) x low) (cond (lt high x) x high)
number_more xs x low high number so_far =
    rw (numbers_number xs x number) (extremes_snoc lt float_order (numbers xs) x low high (numbers_count xs) so_far)

pub numbers_more : (xs : List Float) (x low high : Float)
    → Extremes lt (numbers xs) low high
    → Extremes lt (numbers (xs ++ x ∷ [])) (cond (lt x low) x low) (cond (lt high x) x high)
unfolding lt is_nan
numbers_more xs nan low high so_far = rw (numbers_nan xs, none_below_nan high) so_far
numbers_more xs (inf s) low high so_far = number_more xs (inf s) low high refl so_far
numbers_more xs (fin s m e) low high so_far = number_more xs (fin s m e) low high refl so_far

-- the answer, from the numbers of the list
pub minmax_no_number : (xs : List Float) → numbers xs ≡ [] → minmax_f64 xs ≡ None
unfolding minmax_f64
minmax_no_number xs none-there = rw none-there

pub minmax_numbers : (xs : List Float) (low high : Float) → Extremes lt (numbers xs) low high → minmax_f64 xs ≡ Some (low, high)
unfolding minmax_f64
minmax_numbers xs low high extremes = rw (extremes.lowest_is, extremes.highest_is)

-- ---- the answer at the two types

filter-every : (xs : List ℕ) → filter every xs ≡ xs
filter-every [] = refl
filter-every (x ∷ xs) = ap (λ l. x ∷ l) (filter-every xs)

pub minmax_at_u64 : (xs : List ℕ) → minmax_of ltb every xs ≡ minmax_u64 xs
unfolding minmax_of minmax_u64
minmax_at_u64 xs = rw (filter-every xs)

filter-numbers : (xs : List Float) → filter no_nan xs ≡ numbers xs
unfolding numbers
filter-numbers [] = refl
filter-numbers (x ∷ xs) = by_test (is_nan x) (filter-numbers xs)
  where
    by_test : (b : Bool) → filter no_nan xs ≡ numbers xs
        → cond (not b) (x ∷ filter no_nan xs) (filter no_nan xs) ≡ cond b (numbers xs) (x ∷ numbers xs)
    by_test true rest = rest
    by_test false rest = ap (λ l. x ∷ l) rest

pub minmax_at_f64 : (xs : List Float) → minmax_of lt no_nan xs ≡ minmax_f64 xs
unfolding minmax_of minmax_f64
minmax_at_f64 xs = rw (filter-numbers xs)
