-- What a comparison has to be for one walk over a list to find its lowest and its highest, and that `<` and `==` of a type are one.
use Rattle.std.specs.Prelude.{◌≡◌, Bool, true, false}
use Rattle.std.specs.declared.option.Option.{Option}
use Rattle.std.specs.declared.cmp.Ordering.{Ordering}
use Rattle.std.specs.Ordering.{partial_lt}

-- `below x y` says that x is below y. Of a value that does not count, as NaN, no comparison holds. At such a y `cotransitive` would fail, so it asks
-- that y counts.
pub record Order {A : Type 0} (counts : A → Bool) (below : A → A → Bool) : Type 0 where
  pub irreflexive : (x : A) → below x x ≡ false
  pub transitive : (x y z : A) → below x y ≡ true → below y z ≡ true → below x z ≡ true
  pub cotransitive : (x y z : A) → counts y ≡ true → below x z ≡ true → below y z ≡ false → below x y ≡ true

-- `<` answers `below`, which is an order and holds only of values that count, and those are the ones that equal themselves.
pub record Ranks {A : Type 0} (eq : A → A → Bool) (partial-cmp : A → A → Option Ordering) (counts : A → Bool) (below : A → A → Bool) : Type 0 where
  pub less : (x y : A) → partial_lt partial-cmp x y ≡ below x y
  pub equal : (x : A) → eq x x ≡ counts x
  pub order : Order counts below
  pub left_counts : (x y : A) → below x y ≡ true → counts x ≡ true
  pub right_counts : (x y : A) → below x y ≡ true → counts y ≡ true
