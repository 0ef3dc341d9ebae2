-- The filter after its first i values, and what one more turn does. The ids written so far are no more than the values passed, so the value
-- at i is still the one that was lent, and its id goes behind the others or nowhere.
use mathlib.Core.Path.{◌≡◌, refl, sym, ap, ap₂, ◌∙◌}
use mathlib.Core.Logic.{⊎_elim}
use mathlib.Core.Bool.{true, false}
use mathlib.Core.List.{List, [], ◌∷◌, ◌++◌}
use Prim.Native.Nat.{ℕ, ◌+◌, ◌-◌, ◌^◌, ◌≤◌, ◌<◌, min, zero-le}
use native.Mathlib.Numerals.{add-one}
use native.Mathlib.Omega.{arith}
use lib.ListN.{length, get_or, take, set, length-append, length-set}
use lib.Seq.{take-suc, take_all, length-take-le}
use Rattle.bit_rule.specs.Search.{lies_between, matching_ids, at_start}
use Rattle.bit_rule.proofs.Width.{le_or_lt}
use Rattle.bit_rule.proofs.Search.{matching_then, matching_passed, store_id, past_the_ids}
use Rattle.filter_vec.specs.Filter.{filtered, filter_of}

module _ (lo hi offset : ℕ) (vals : List ℕ) where
  abbrev idsOfFirst : ℕ → List ℕ
  idsOfFirst i = matching_ids lo hi offset (take i vals)

  -- What holds of the count and of the slice after the first i values.
  pub record Passed (i count : ℕ) (output : List ℕ) : Type 0 where
    pub counted : count ≡ length (idsOfFirst i)
    pub stored : output ≡ at_start (idsOfFirst i) vals
    pub within : count ≤ i
    pub same_length : length output ≡ length vals

  pub none_passed : Passed 0 0 vals
  unfolding matching_ids
  none_passed = record { counted = refl; stored = refl; within = zero-le; same_length = refl }

-- One turn, at a value of the slice.
module _ {lo hi offset : ℕ} {vals : List ℕ} {i count : ℕ} {output : List ℕ} (passed : Passed lo hi offset vals i count output) (inside : i < length vals) where
  -- the value at i is still the one that was lent
  unwritten : get_or output i 0 ≡ get_or vals i 0
  unwritten = ap (λ l. get_or l i 0) passed.stored ∙ past_the_ids (idsOfFirst lo hi offset vals i) vals i (omega arith)

  one_more : take (i + 1) vals ≡ take i vals ++ get_or output i 0 ∷ []
  one_more = rw (add-one, take-suc vals i 0, unwritten)

  -- it lies in the interval: its id goes behind the others
  pub turn_match : lies_between lo hi (get_or output i 0) ≡ true → Passed lo hi offset vals (i + 1) (count + 1) (set output count (offset + i))
  turn_match match =
      let ids = idsOfFirst lo hi offset vals i in
      let next : idsOfFirst lo hi offset vals (i + 1) ≡ ids ++ (offset + i) ∷ [] =
      ap (matching_ids lo hi offset) one_more
      ∙ matching_then lo hi offset (take i vals) (get_or output i 0) match
      ∙ ap (λ k. ids ++ (offset + k) ∷ []) (length-take-le i vals (omega arith)) in
      record {
        counted = omega (arith, ap length next, length-append ids ((offset + i) ∷ []));
        stored = ap₂ (λ l k. set l k (offset + i)) passed.stored passed.counted
            ∙ store_id ids vals (offset + i) (omega arith)
            ∙ ap (λ l. at_start l vals) (sym next);
        within = omega arith;
        same_length = simp length-set passed.same_length;
      }

  -- it does not: nothing is written
  pub turn_pass : lies_between lo hi (get_or output i 0) ≡ false → Passed lo hi offset vals (i + 1) count output
  turn_pass no-match =
      let same : idsOfFirst lo hi offset vals (i + 1) ≡ idsOfFirst lo hi offset vals i =
      ap (matching_ids lo hi offset) one_more ∙ matching_passed lo hi offset (take i vals) (get_or output i 0) no-match in
      record {
        counted = passed.counted ∙ ap length (sym same);
        stored = passed.stored ∙ ap (λ l. at_start l vals) (sym same);
        within = omega arith;
        same_length = passed.same_length;
      }

-- no more can be taken than there is
take_min : (n : ℕ) (l : List ℕ) → take (min n (length l)) l ≡ take n l
take_min n l = ⊎_elim few (λ over. whole (omega arith)) (le_or_lt n (length l))
  where
    few : n ≤ length l → take (min n (length l)) l ≡ take n l
    few h = let least : min n (length l) ≡ n = omega arith in ap (λ k. take k l) least

    whole : length l ≤ n → take (min n (length l)) l ≡ take n l
    whole h = take_all (min n (length l)) l (omega arith) ∙ sym (take_all n l h)

-- once every value that has an id is passed, the count and the slice are the filter's
pub all_passed : {lo hi offset : ℕ} {vals : List ℕ} {i count : ℕ} {output : List ℕ} → Passed lo hi offset vals i count output
    → i ≡ min (2 ^ 32 - offset) (length vals) → filtered count output ≡ filter_of lo hi offset vals
unfolding filter_of
all_passed {lo} {hi} {offset} {vals} passed end =
    let ids : List ℕ → List ℕ = matching_ids lo hi offset in
    ap₂ filtered passed.counted passed.stored
    ∙ ap (λ l. filtered (length (ids l)) (at_start (ids l) vals)) (ap (λ k. take k vals) end ∙ take_min (2 ^ 32 - offset) vals)
