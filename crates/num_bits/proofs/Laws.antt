-- The lowest of a list, and what it becomes when one element x is added at the end: x where x is below the lowest m so far, else m.
-- None of the list is below m. So where x is below m, x is below each of the list (cotransitive) and none of the list is below x (transitive):
-- x is then the first that none is below. Where x is not below m, m still is the first, since x rules out no more than the list did before m.
-- `highest` is `lowest` with the comparison turned round, and a turned order is an order, so each law of it is the law of `lowest`.
use Prim.Native.Nat.{ℕ, zero, suc, ◌<◌, suc-le-suc}
use native.Mathlib.Nat.{le_of_suc-le-suc, not-suc-le-zero, zero-lt-suc}
use mathlib.Core.Path.{◌≡◌, refl, sym, ◌∙◌, ap}
use mathlib.Core.Logic.{◌⊎◌, inl, inr}
use mathlib.Core.Bool.{Bool, true, false, not, ◌&&◌, cond, true≢false, false≢true, and-true, and-false, and_assoc}
use mathlib.Core.List.{List, [], ◌∷◌, ◌++◌, append-nil}
use mathlib.Core.Option.{some, some-injective, none-ne-some}
use lib.ListN.{length, get_or}
use lib.Seq.{append_snoc}
use borrow.Author.Tests.{not-true}
use Rattle.num_bits.specs.MinMax.{none_below, first_under, lowest, highest}
use Rattle.num_bits.specs.Order.{Order}

-- ---- the order

abbrev pub turned : {A : Type 0} → (A → A → Bool) → A → A → Bool
turned below x y = below y x

true_if_never_false : (b : Bool) → (b ≡ false → ⊥) → b ≡ true
true_if_never_false true h = refl
true_if_never_false false h = absurd (h refl)

pub false_if_never_true : (b : Bool) → (b ≡ true → ⊥) → b ≡ false
false_if_never_true true h = absurd (h refl)
false_if_never_true false h = refl

pub turned_order : {A : Type 0} {counts : A → Bool} {below : A → A → Bool} → Order counts below → Order counts (turned below)
turned_order {below} order =
    record {
      irreflexive = order.irreflexive;
      transitive = λ x y z y<x z<y. order.transitive z y x z<y y<x;
      cotransitive =
          λ x y z y-counts z<x z≮y. true_if_never_false (below y x) (λ y≮x. true≢false (sym (order.cotransitive z y x y-counts z<x y≮x) ∙ z≮y));
    }

-- every element of the list counts
abbrev pub AllCount : {A : Type 0} → (A → Bool) → List A → Type 0
AllCount counts [] = Unit
AllCount counts (x ∷ xs) = (counts x ≡ true) × AllCount counts xs

-- ---- none below, and the first that none is below

module _ {A : Type 0} (below : A → A → Bool) where
  none_below_cons : (m x : A) (xs : List A) → none_below below m (x ∷ xs) ≡ true → (below x m ≡ false) × (none_below below m xs ≡ true)
  unfolding none_below
  none_below_cons m x xs e = let (head, tail) = both_true (not (below x m)) (none_below below m xs) e in (not-true (below x m) head, tail)
    where
      both_true : (a b : Bool) → (a && b) ≡ true → (a ≡ true) × (b ≡ true)
      both_true true b e = (refl, e)
      both_true false b e = absurd (false≢true e)

  none_below_snoc : (m : A) (xs : List A) (x : A) → none_below below m (xs ++ x ∷ []) ≡ (none_below below m xs && not (below x m))
  unfolding none_below
  none_below_snoc m [] x = and-true (not (below x m))
  none_below_snoc m (y ∷ xs) x =
      ap (λ (b : Bool). not (below y m) && b) (none_below_snoc m xs x)
      ∙ sym (and_assoc (not (below y m)) (none_below below m xs) (not (below x m)))

  -- what is found is the first element, which none is below, or is found behind it
  found_cases : (ys : List A) (x : A) (xs : List A) (m : A)
      → first_under below ys (x ∷ xs) ≡ some m
      → ((none_below below x ys ≡ true) × (x ≡ m)) ⊎ ((none_below below x ys ≡ false) × (first_under below ys xs ≡ some m))
  unfolding first_under
  found_cases ys x xs m found = by_test (none_below below x ys) refl found
    where
      by_test : (b : Bool)
          → none_below below x ys ≡ b
          → cond b (some x) (first_under below ys xs) ≡ some m
          → ((none_below below x ys ≡ true) × (x ≡ m)) ⊎ ((none_below below x ys ≡ false) × (first_under below ys xs ≡ some m))
      by_test true under is = inl (under, some-injective x m is)
      by_test false not-under behind = inr (not-under, behind)

  found_under : (ys xs : List A) (m : A) → first_under below ys xs ≡ some m → none_below below m ys ≡ true
  unfolding first_under
  found_under ys [] m found = absurd (none-ne-some m found)
  found_under ys (x ∷ xs) m found =
      elim (found_cases ys x xs m found) [
        | inl (under, is) ↦ rw (← is) under
        | inr (not-under, behind) ↦ found_under ys xs m behind
      ]

  found_at : (d : A) (ys xs : List A) (m : A) → first_under below ys xs ≡ some m → (i : ℕ) × (i < length xs) × (get_or xs i d ≡ m)
  unfolding first_under
  found_at d ys [] m found = absurd (none-ne-some m found)
  found_at d ys (x ∷ xs) m found =
      elim (found_cases ys x xs m found) [
        | inl (under, is) ↦ (0, zero-lt-suc (length xs), is)
        | inr (not-under, behind) ↦ let (i, within, is) = found_at d ys xs m behind in (suc i, suc-le-suc within, is)
      ]

  none_below_at : (d m : A) (xs : List A) (i : ℕ) → none_below below m xs ≡ true → i < length xs → below (get_or xs i d) m ≡ false
  none_below_at d m [] i none_below within = absurd (not-suc-le-zero within)
  none_below_at d m (x ∷ xs) zero none_below within = (none_below_cons m x xs none_below).0
  none_below_at d m (x ∷ xs) (suc i) none_below within = none_below_at d m xs i (none_below_cons m x xs none_below).1 (le_of_suc-le-suc within)

-- ---- one element more at the end

module _ {A : Type 0} (below : A → A → Bool) where
  -- an x that is not below m leaves m the first
  found_stays : (ys ws : List A) (x m : A) → below x m ≡ false → first_under below ys ws ≡ some m → first_under below (ys ++ x ∷ []) (ws ++ x ∷ []) ≡ some m
  unfolding first_under
  found_stays ys [] x m x≮m found = absurd (none-ne-some m found)
  found_stays ys (w ∷ ws) x m x≮m found =
      elim (found_cases below ys w ws m found) [
        | inl (under, is) ↦ rw (none_below_snoc below w ys x, under, is, x≮m)
        | inr (not-under, behind) ↦ rw (none_below_snoc below w ys x, not-under) (found_stays ys ws x m x≮m behind)
      ]

  module _ {counts : A → Bool} (order : Order counts below) where
    -- an x that is below m, where none of ws is, is below each of ws, so that none of ws is the first
    passed_over : (ys ws : List A) (x m : A)
        → below x m ≡ true
        → none_below below m ws ≡ true
        → AllCount counts ws
        → first_under below (ys ++ x ∷ []) (ws ++ x ∷ []) ≡ first_under below (ys ++ x ∷ []) (x ∷ [])
    unfolding first_under
    passed_over ys [] x m x<m none_below all_count = refl
    passed_over ys (w ∷ ws) x m x<m none_below all_count =
        let (w≮m, rest) = none_below_cons below m w ws none_below in
        let x<w : below x w ≡ true = order.cotransitive x w m all_count.0 x<m w≮m in
        rw (none_below_snoc below w ys x, x<w, and-false) (passed_over ys ws x m x<m rest all_count.1)

    -- and none of ws is below such an x
    none_below_lower : (ws : List A) (x m : A) → below x m ≡ true → none_below below m ws ≡ true → none_below below x ws ≡ true
    unfolding none_below
    none_below_lower [] x m x<m none_below = refl
    none_below_lower (w ∷ ws) x m x<m none_below =
        let (w≮m, rest) = none_below_cons below m w ws none_below in
        let w≮x : below w x ≡ false = false_if_never_true (below w x) (λ w<x. true≢false (sym (order.transitive w x m w<x x<m) ∙ w≮m)) in
        rw w≮x (none_below_lower ws x m x<m rest)

    pub lowest_one : (x : A) → lowest below (x ∷ []) ≡ some x
    unfolding lowest
    lowest_one x = rw (order.irreflexive x)

    pub lowest_snoc : (xs : List A) (x m : A) → AllCount counts xs → lowest below xs ≡ some m → lowest below (xs ++ x ∷ []) ≡ some (cond (below x m) x m)
    unfolding lowest
    lowest_snoc xs x m all_count found = by_test (below x m) refl
      where
        by_test : (b : Bool) → below x m ≡ b → lowest below (xs ++ x ∷ []) ≡ some (cond b x m)
        by_test true x<m =
            let none_below = found_under below xs xs m found in
            passed_over xs xs x m x<m none_below all_count
            ∙ rw (none_below_snoc below x xs x, none_below_lower xs x m x<m none_below, order.irreflexive x)
        by_test false x≮m = found_stays xs xs x m x≮m found

-- ---- no element is below the lowest, and it is an element; so for the highest

module _ {A : Type 0} (below : A → A → Bool) (d : A) (xs : List A) (m : A) where
  pub lowest_bounds : lowest below xs ≡ some m → (i : ℕ) → i < length xs → below (get_or xs i d) m ≡ false
  unfolding lowest
  lowest_bounds found i within = none_below_at below d m xs i (found_under below xs xs m found) within

  pub lowest_occurs : lowest below xs ≡ some m → (i : ℕ) × (i < length xs) × (get_or xs i d ≡ m)
  unfolding lowest
  lowest_occurs found = found_at below d xs xs m found

module _ {A : Type 0} (below : A → A → Bool) (d : A) (xs : List A) (m : A) where
  pub highest_bounds : highest below xs ≡ some m → (i : ℕ) → i < length xs → below m (get_or xs i d) ≡ false
  unfolding highest
  highest_bounds found = lowest_bounds (turned below) d xs m found

  pub highest_occurs : highest below xs ≡ some m → (i : ℕ) × (i < length xs) × (get_or xs i d ≡ m)
  unfolding highest
  highest_occurs found = lowest_occurs (turned below) d xs m found

-- ---- lowest and highest together, as a loop over a list has them so far

pub record Extremes {A : Type 0} (below : A → A → Bool) (xs : List A) (low high : A) : Type 0 where
  pub lowest_is : lowest below xs ≡ some low
  pub highest_is : highest below xs ≡ some high

all_count_snoc : {A : Type 0} (counts : A → Bool) (xs : List A) (x : A) → AllCount counts xs → counts x ≡ true → AllCount counts (xs ++ x ∷ [])
all_count_snoc counts [] x all_count x-counts = (x-counts, tt)
all_count_snoc counts (y ∷ xs) x all_count x-counts = (all_count.0, all_count_snoc counts xs x all_count.1 x-counts)

module _ {A : Type 0} (below : A → A → Bool) {counts : A → Bool} (order : Order counts below) where
  pub extremes_one : (x : A) → Extremes below (x ∷ []) x x
  unfolding highest
  extremes_one x = record { lowest_is = lowest_one below order x; highest_is = lowest_one (turned below) (turned_order order) x }

  pub extremes_snoc : (xs : List A) (x low high : A)
      → AllCount counts xs
      → Extremes below xs low high
      → Extremes below (xs ++ x ∷ []) (cond (below x low) x low) (cond (below high x) x high)
  unfolding highest
  extremes_snoc xs x low high all_count so_far =
      record {
        lowest_is = lowest_snoc below order xs x low all_count so_far.lowest_is;
        highest_is = lowest_snoc (turned below) (turned_order order) xs x high all_count so_far.highest_is;
      }

  extremes_append : (xs ys : List A) (low high : A)
      → AllCount counts xs
      → AllCount counts ys
      → Extremes below xs low high
      → (l : A) × (h : A) × Extremes below (xs ++ ys) l h
  extremes_append xs [] low high xs-count ys-count so_far = (low, high, rw append-nil so_far)
  extremes_append xs (y ∷ ys) low high xs-count ys-count so_far =
      rw (← append_snoc xs y ys)
      (extremes_append (xs ++ y ∷ []) ys _ _ (all_count_snoc counts xs y xs-count ys-count.0) ys-count.1
      (extremes_snoc xs y low high xs-count so_far))

  -- a list that is not empty has both
  pub extremes_exist : (x : A) (xs : List A) → AllCount counts (x ∷ xs) → (l : A) × (h : A) × Extremes below (x ∷ xs) l h
  extremes_exist x xs all_count = extremes_append (x ∷ []) xs x x (all_count.0, tt) all_count.1 (extremes_one x)
