-- The whole numbers and the floats are ranked: of whole numbers each counts, of floats each that is no NaN.
use Rattle.std.specs.Prelude.{◌≡◌, ℕ, Bool, true, false, not, cond, T, ltb, nat_eq, Float, refl, Some, None}
use Rattle.std.specs.declared.cmp.Ordering.TheVariants.{Less, Equal, Greater}
use Rattle.std.specs.Ordering.{is_lt, is_some_and, nat_cmp, float_partial_cmp}
use Rattle.std.specs.Float.Ieee.{lt, eq, is_nan}
use Rattle.std.proofs.Common.{arith, inl, inr}
use Rattle.std.proofs.lemmas.Bool.Decides.{nat_tests}
use Rattle.std.proofs.lemmas.Float.{T_from_true, T_from_false, le_refl, lt_irrefl, le_of_lt, le_of_eq, lt-or-eq, le_left, le_right, le_of_not-lt, lt_trans, lt_of_lt_of_le}
use Rattle.std.specs.Cmp.{both_ways}
use lib.Ieee.Bits.{is_true}
use borrow.Author.Tests.{ltb-true, ltb-false, lt-ltb, le-ltb, eq-eqb}
use Rattle.num_bits.specs.Order.{Order, Ranks}

-- `<` where a is what `less than` answers, e what `equal` and b what `greater than`
less_is_first : (a e b : Bool) → is_some_and is_lt (cond a (Some Less) (cond e (Some Equal) (cond b (Some Greater) None))) ≡ a
less_is_first true e b = refl
less_is_first false true b = refl
less_is_first false false true = refl
less_is_first false false false = refl

-- ---- whole numbers

abbrev pub every : ℕ → Bool
every n = true

pub whole_order : Order every ltb
whole_order =
    record {
      irreflexive = λ x. le-ltb x x (omega arith);
      transitive = λ x y z x<y y<z. lt-ltb x z (omega (arith, ltb-true));
      cotransitive = λ x y z y-counts x<z y≮z. lt-ltb x y (omega (arith, ltb-true, ltb-false));
    }

pub whole_ranks : Ranks nat_eq (λ x y. Some (nat_cmp x y)) every ltb
whole_ranks = record { less = λ x y. grind (arith, nat_tests); equal = λ x. eq-eqb x x refl; order = whole_order; left_counts = λ x y x<y. refl; right_counts = λ x y x<y. refl }

-- ---- floats

abbrev pub no_nan : Float → Bool
no_nan x = not (is_nan x)

is_false : (b : Bool) → (T b → ⊥) → b ≡ false
is_false true fails = absurd (fails tt)
is_false false fails = refl

equal_itself : (x : Float) → eq x x ≡ no_nan x
equal_itself x =
    both_ways (eq x x) (no_nan x)
    (λ equal. is_true (no_nan x) (le_left x x (le_of_eq x x (T_from_true (eq x x) equal))))
    (λ number.
    elim (lt-or-eq x x (le_refl x (T_from_true (no_nan x) number))) [
      | inl x<x ↦ absurd (lt_irrefl x x<x)
      | inr equal ↦ is_true (eq x x) equal
    ])

-- where y is not below z, z is at most y
pub float_order : Order no_nan lt
float_order =
    record {
      irreflexive = λ x. is_false (lt x x) (lt_irrefl x);
      transitive = λ x y z x<y y<z. is_true (lt x z) (lt_trans x y z (T_from_true (lt x y) x<y) (T_from_true (lt y z) y<z));
      cotransitive =
          λ x y z y-counts x<z y≮z.
          let less = T_from_true (lt x z) x<z in
          let z-counts = le_right x z (le_of_lt x z less) in
          is_true (lt x y) (lt_of_lt_of_le x z y less (le_of_not-lt y z (T_from_true (no_nan y) y-counts) z-counts (T_from_false (lt y z) y≮z)));
    }

pub float_ranks : Ranks eq float_partial_cmp no_nan lt
float_ranks =
    record {
      less = λ x y. less_is_first (lt x y) (eq x y) (lt y x);
      equal = equal_itself;
      order = float_order;
      left_counts = λ x y x<y. is_true (no_nan x) (le_left x y (le_of_lt x y (T_from_true (lt x y) x<y)));
      right_counts = λ x y x<y. is_true (no_nan y) (le_right x y (le_of_lt x y (T_from_true (lt x y) x<y)));
    }
