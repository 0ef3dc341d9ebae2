-- The search that looks at the values one by one: where it stands at an id, the ids of the matching values before that one are found and stored,
-- and a turn takes it one id further, whether the value there matches or not.
use mathlib.Core.Path.{◌≡◌, sym, ap, ◌∙◌, subst}
use mathlib.Core.Bool.{true, false}
use mathlib.Core.List.{List, [], ◌∷◌, ◌++◌}
use Prim.Native.Nat.{ℕ, ◌+◌, ◌-◌, ◌≤◌, ◌<◌}
use native.Mathlib.Omega.{arith}
use lib.ListN.{length, set}
use Rattle.bit_rule.specs.Place.{value_at, values_from}
use Rattle.bit_rule.specs.Search.{lies_between, matching_ids, at_start}
use Rattle.bit_rule.proofs.Place.{length-values_from, values_from_then}
use Rattle.bit_rule.proofs.Search.{Searched, none_searched, search_match, search_pass, paste_first}
use Rattle.bitunpacker.specs.Parts.{Kept}
use Rattle.bitunpacker.specs.Unpacker.{ids_of}

abbrev values_before : ℕ → ℕ → List ℕ → ℕ → List ℕ
values_before w start bs id = values_from w start (id - start) bs

module _ (w lo hi start end : ℕ) (bs positions₀ : List ℕ) where
  -- The search stands at an id.
  pub record StandsAt (id found : ℕ) (positions : List ℕ) : Type 0 where
    pub started : start ≤ id
    pub within : id ≤ end
    pub few : found ≤ id - start
    pub searched : Searched lo hi start (values_before w start bs id) positions₀ found positions

  pub stands_at_start : start ≤ end → StandsAt start 0 positions₀
  unfolding values_from
  stands_at_start ordered =
      let none : 0 ≡ start - start = omega arith in
      record {
        started = omega arith;
        within = ordered;
        few = omega arith;
        searched = subst (λ n. Searched lo hi start (values_from w start n bs) positions₀ 0 positions₀) none (none_searched lo hi start positions₀);
      }

module _ {w lo hi start end : ℕ} {bs positions₀ : List ℕ} {id found : ℕ} {positions : List ℕ}
    (here : StandsAt w lo hi start end bs positions₀ id found positions) where
  -- One turn, at an id before the end whose value was read.
  module _ (more : id < end) {value : ℕ} (read : value ≡ value_at w id bs) where
    next : values_before w start bs (id + 1) ≡ values_before w start bs id ++ value ∷ []
    next =
        let one_more : id + 1 - start ≡ id - start + 1 = omega arith in
        let this : start + (id - start) ≡ id = omega arith in
        ap (λ n. values_from w start n bs) one_more
        ∙ values_from_then w start (id - start) bs
        ∙ ap (λ v. values_before w start bs id ++ v ∷ []) (ap (λ i. value_at w i bs) this ∙ sym read)

    pub stands_after_match : end - start ≤ length positions₀ → lies_between lo hi value ≡ true
        → StandsAt w lo hi start end bs positions₀ (id + 1) (found + 1) (set positions found id)
    stands_after_match room match =
        let passed = length-values_from w start (id - start) bs in
        record {
          started = omega arith;
          within = omega arith;
          few = omega arith;
          searched = search_match here.searched value next match (omega arith) (omega arith);
        }

    pub stands_after_pass : lies_between lo hi value ≡ false → StandsAt w lo hi start end bs positions₀ (id + 1) found positions
    stands_after_pass no-match =
        record {
          started = omega arith;
          within = omega arith;
          few = omega arith;
          searched = search_pass here.searched value next no-match;
        }

  -- at the end every id of the range is kept
  pub stands_at_end : end ≤ id → Kept 0 (ids_of w lo hi start end bs) positions₀ found positions
  unfolding ids_of
  stands_at_end done =
      let ids : ℕ → List ℕ = λ n. matching_ids lo hi start (values_before w start bs n) in
      let all : ids id ≡ ids end = ap ids (omega arith) in
      record {
        count = omega (arith, here.searched.counted, ap length all);
        pasted = here.searched.stored ∙ ap (λ l. at_start l positions₀) all ∙ sym (paste_first (ids end) positions₀);
      }
