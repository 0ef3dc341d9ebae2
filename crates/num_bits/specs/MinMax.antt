-- Document 01: "Lowest and highest of u64 values: none for an empty list. The 64-bit float form skips NaN; it answers none if nothing else
-- is there; among equal values the one met first is kept, so -0.0 then 0.0 gives -0.0 twice."
-- One definition over a comparison serves both: the lowest of a list is the first element that no element is below. The highest is the same
-- with the comparison turned round.
use Rattle.std.specs.Prelude.{ℕ, Bool, true, not, ◌&&◌, cond, List, [], ◌∷◌, ltb, Float}
use Rattle.std.specs.List.{filter}
use Rattle.std.specs.declared.option.Option.{Option as Answer}
use Rattle.std.specs.declared.option.Option.TheVariants.{None, Some}
use Rattle.std.proofs.Math.Option.{Option, none, some}
use Rattle.std.specs.Float.Ieee.{lt, is_nan}

-- none of ys is below x
unfoldable pub none_below : {A : Type 0} → (A → A → Bool) → A → List A → Bool
none_below below x [] = true
none_below below x (y ∷ ys) = not (below y x) && none_below below x ys

-- the first of xs that none of ys is below
unfoldable pub first_under : {A : Type 0} → (A → A → Bool) → List A → List A → Option A
unfolding none_below
first_under below ys [] = none
first_under below ys (x ∷ xs) = cond (none_below below x ys) (some x) (first_under below ys xs)

unfoldable pub lowest : {A : Type 0} → (A → A → Bool) → List A → Option A
unfolding first_under
lowest below xs = first_under below xs xs

unfoldable pub highest : {A : Type 0} → (A → A → Bool) → List A → Option A
unfolding lowest
highest below xs = lowest (λ a b. below b a) xs

-- the elements that are no NaN
unfoldable pub numbers : List Float → List Float
unfolding is_nan
numbers [] = []
numbers (x ∷ xs) = cond (is_nan x) (numbers xs) (x ∷ numbers xs)

-- the answer: both, or nothing
abbrev pub both : {A : Type 0} → Option A → Option A → Answer (A × A)
both none none = None
both none (some h) = None
both (some l) none = None
both (some l) (some h) = Some (l, h)

unfoldable pub minmax_u64 : List ℕ → Answer (ℕ × ℕ)
unfolding lowest highest
minmax_u64 xs = both (lowest ltb xs) (highest ltb xs)

unfoldable pub minmax_f64 : List Float → Answer (Float × Float)
unfolding lowest highest numbers lt
minmax_f64 xs = both (lowest lt (numbers xs)) (highest lt (numbers xs))

-- the same of any type, over those elements that count
unfoldable pub minmax_of : {A : Type 0} → (A → A → Bool) → (A → Bool) → List A → Answer (A × A)
unfolding lowest highest
minmax_of below counts xs = both (lowest below (filter counts xs)) (highest below (filter counts xs))
