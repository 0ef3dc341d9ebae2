-- Lowest and highest of whole numbers: the lowest is at most each of the list and occurs in it, and the highest is at least each and occurs.
-- The laws of `Laws` are cited at `ltb`, whose order is that of the numbers, and where a test `ltb a b` fails b is at most a.
use Prim.Native.Nat.{ℕ, ◌≤◌, ◌<◌}
use native.Mathlib.Nat.{not-suc-le-zero}
use native.Mathlib.Omega.{arith}
use mathlib.Core.Path.{◌≡◌, refl, ap, ◌∙◌}
use mathlib.Core.List.{List, [], ◌∷◌}
use mathlib.Core.Option.{Option, none, some}
use lib.Dec.{ltb}
use lib.ListN.{length, get_or}
use borrow.Author.Tests.{ltb-false}
use Rattle.std.specs.Prelude.{None, Some}
use Rattle.std.specs.Option.{unwrap_or}
use Rattle.num_bits.specs.MinMax.{lowest, highest, both, minmax_u64}
use Rattle.num_bits.specs.Ranked.{every, whole_order}
use Rattle.num_bits.proofs.Laws.{AllCount, Extremes, extremes_exist, lowest_bounds, lowest_occurs, highest_bounds, highest_occurs}

pub all_count : (xs : List ℕ) → AllCount every xs
all_count [] = tt
all_count (x ∷ xs) = (refl, all_count xs)

-- ---- the bounds

pub lowest_bound : (xs : List ℕ) (m : ℕ) → lowest ltb xs ≡ some m → (i : ℕ) → i < length xs → m ≤ get_or xs i 0
lowest_bound xs m found i within = ltb-false (get_or xs i 0) m (lowest_bounds ltb 0 xs m found i within)

pub highest_bound : (xs : List ℕ) (m : ℕ) → highest ltb xs ≡ some m → (i : ℕ) → i < length xs → get_or xs i 0 ≤ m
highest_bound xs m found i within = ltb-false m (get_or xs i 0) (highest_bounds ltb 0 xs m found i within)

pub record Bounds (xs : List ℕ) (low high : ℕ) : Type 0 where
  pub lowest_bound : (i : ℕ) → i < length xs → low ≤ get_or xs i 0
  pub lowest_occurs : (i : ℕ) × (i < length xs) × (get_or xs i 0 ≡ low)
  pub highest_bound : (i : ℕ) → i < length xs → get_or xs i 0 ≤ high
  pub highest_occurs : (i : ℕ) × (i < length xs) × (get_or xs i 0 ≡ high)

pub extremes_bounds : (xs : List ℕ) (low high : ℕ) → Extremes ltb xs low high → Bounds xs low high
extremes_bounds xs low high extremes =
    record {
      lowest_bound = lowest_bound xs low extremes.lowest_is;
      lowest_occurs = lowest_occurs ltb 0 xs low extremes.lowest_is;
      highest_bound = highest_bound xs high extremes.highest_is;
      highest_occurs = highest_occurs ltb 0 xs high extremes.highest_is;
    }

pub lowest_le_highest : (xs : List ℕ) (low high : ℕ) → Bounds xs low high → low ≤ high
lowest_le_highest xs low high bounds = let (i, within, is) = bounds.lowest_occurs in omega (arith, bounds.highest_bound i within)

-- ---- the answer

pub minmax_empty : (xs : List ℕ) → length xs ≡ 0 → minmax_u64 xs ≡ None
unfolding minmax_u64
minmax_empty [] none-there = refl
minmax_empty (x ∷ xs) none-there = absurd (omega arith)

pub minmax_is : (xs : List ℕ) (low high : ℕ) → Extremes ltb xs low high → minmax_u64 xs ≡ Some (low, high)
unfolding minmax_u64
minmax_is xs low high extremes = rw (extremes.lowest_is, extremes.highest_is)

pub minmax_extremes : (xs : List ℕ) (low high : ℕ) → minmax_u64 xs ≡ Some (low, high) → Extremes ltb xs low high
unfolding minmax_u64
minmax_extremes xs low high answer = by_parts (lowest ltb xs) (highest ltb xs) refl refl answer
  where
    by_parts : (l h : Option ℕ) → lowest ltb xs ≡ l → highest ltb xs ≡ h → both l h ≡ Some (low, high) → Extremes ltb xs low high
    by_parts none none l-is h-is a = absurd (let z : ◌≡◌ {A = ℕ} 0 1 = cc in omega arith)
    by_parts none (some h) l-is h-is a = absurd (let z : ◌≡◌ {A = ℕ} 0 1 = cc in omega arith)
    by_parts (some l) none l-is h-is a = absurd (let z : ◌≡◌ {A = ℕ} 0 1 = cc in omega arith)
    by_parts (some l) (some h) l-is h-is a =
        let pair : (l, h) ≡ (low, high) = ap (λ r. unwrap_or r (l, h)) a in
        record { lowest_is = l-is ∙ ap (λ p. some p.0) pair; highest_is = h-is ∙ ap (λ p. some p.1) pair }

-- what the answer says of the list
pub minmax_bounds : (xs : List ℕ) (low high : ℕ) → minmax_u64 xs ≡ Some (low, high) → Bounds xs low high
minmax_bounds xs low high answer = extremes_bounds xs low high (minmax_extremes xs low high answer)

-- a list that is not empty has an answer
pub minmax_exists : (xs : List ℕ) → 0 < length xs → (low : ℕ) × (high : ℕ) × (minmax_u64 xs ≡ Some (low, high)) × Bounds xs low high
minmax_exists [] some-there = absurd (not-suc-le-zero some-there)
minmax_exists (x ∷ xs) some-there =
    let (low, high, extremes) = extremes_exist ltb whole_order x xs (all_count (x ∷ xs)) in
    (low, high, minmax_is (x ∷ xs) low high extremes, extremes_bounds (x ∷ xs) low high extremes)

pub minmax_nothing : (xs : List ℕ) → minmax_u64 xs ≡ None → length xs ≡ 0
minmax_nothing [] nothing = refl
minmax_nothing (x ∷ xs) nothing =
    let (low, high, answer, bounds) = minmax_exists (x ∷ xs) (omega arith) in
    absurd (let z : ◌≡◌ {A = ℕ} 0 1 = cc in omega arith)
