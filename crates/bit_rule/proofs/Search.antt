-- The ids of matching values: there are no more of them than values, and those of a longer list are those of its parts.
-- By induction on the values.
use mathlib.Core.Path.{◌≡◌, refl, sym, ap, ap₂, ◌∙◌}
use mathlib.Core.Logic.{⊎_elim}
use mathlib.Core.Bool.{Bool, true, false, ◌&&◌, cond}
use mathlib.Core.List.{List, [], ◌∷◌, ◌++◌, append-nil, append_assoc}
use Prim.Native.Nat.{ℕ, suc, ◌+◌, ◌-◌, ◌≤◌, ◌<◌, min, zero-le}
use native.Mathlib.Nat.{zero-add, add-zero, add_assoc}
use native.Mathlib.Numerals.{add-one}
use native.Mathlib.Omega.{arith}
use lib.Dec.{leb}
use lib.ListN.{length, get_or, take, drop, set, length-append, length-drop, length-set, take-append-drop}
use lib.Seq.{set_at, drop-cons, append_snoc, take_at, length-take-le, drop-append-add, drop-drop, get_or-append-add, get_or-drop}
use borrow.Author.Tests.{le-leb, lt-leb}
use Rattle.bit_rule.specs.Search.{lies_between, matching_ids, at_start, pasted_at}
use Rattle.bit_rule.proofs.Width.{le_or_lt}

pub matching_le : (lo hi id : ℕ) (vs : List ℕ) → length (matching_ids lo hi id vs) ≤ length vs
unfolding matching_ids
matching_le lo hi id [] = zero-le
matching_le lo hi id (v ∷ vs) = go (lies_between lo hi v) (matching_le lo hi (id + 1) vs)
  where
    go : (t : Bool) → length (matching_ids lo hi (id + 1) vs) ≤ length vs
        → length (cond t (id ∷ matching_ids lo hi (id + 1) vs) (matching_ids lo hi (id + 1) vs)) ≤ suc (length vs)
    go true h = omega arith
    go false h = omega arith

pub matching_append : (lo hi id : ℕ) (us vs : List ℕ) → matching_ids lo hi id (us ++ vs) ≡ matching_ids lo hi id us ++ matching_ids lo hi (id + length us) vs
unfolding matching_ids
matching_append lo hi id [] vs = ap (λ k. matching_ids lo hi k vs) (omega arith)
matching_append lo hi id (u ∷ us) vs =
    go (lies_between lo hi u) (matching_append lo hi (id + 1) us vs ∙ ap (λ k. matching_ids lo hi (id + 1) us ++ matching_ids lo hi k vs) (omega arith))
  where
    go : (t : Bool) → matching_ids lo hi (id + 1) (us ++ vs) ≡ matching_ids lo hi (id + 1) us ++ matching_ids lo hi (id + length (u ∷ us)) vs
        → cond t (id ∷ matching_ids lo hi (id + 1) (us ++ vs)) (matching_ids lo hi (id + 1) (us ++ vs))
        ≡ cond t (id ∷ matching_ids lo hi (id + 1) us) (matching_ids lo hi (id + 1) us) ++ matching_ids lo hi (id + length (u ∷ us)) vs
    go true e = ap (λ l. id ∷ l) e
    go false e = e

-- one more value: its id follows where it matches
pub matching_then : (lo hi id : ℕ) (us : List ℕ) (v : ℕ) → lies_between lo hi v ≡ true
    → matching_ids lo hi id (us ++ v ∷ []) ≡ matching_ids lo hi id us ++ ((id + length us) ∷ [])
unfolding matching_ids
matching_then lo hi id us v h =
    matching_append lo hi id us (v ∷ []) ∙ ap (λ t. matching_ids lo hi id us ++ cond t ((id + length us) ∷ []) []) h

pub matching_passed : (lo hi id : ℕ) (us : List ℕ) (v : ℕ) → lies_between lo hi v ≡ false
    → matching_ids lo hi id (us ++ v ∷ []) ≡ matching_ids lo hi id us
unfolding matching_ids
matching_passed lo hi id us v h =
    matching_append lo hi id us (v ∷ [])
    ∙ ap (λ t. matching_ids lo hi id us ++ cond t ((id + length us) ∷ []) []) h
    ∙ append-nil (matching_ids lo hi id us)

-- an interval that lies above every value matches nothing
pub none_above : (lo hi id : ℕ) (vs : List ℕ) → ((i : ℕ) → get_or vs i 0 < lo) → matching_ids lo hi id vs ≡ []
unfolding matching_ids
none_above lo hi id [] h = refl
none_above lo hi id (v ∷ vs) h =
    ap (λ t. cond (t && leb v hi) (id ∷ matching_ids lo hi (id + 1) vs) (matching_ids lo hi (id + 1) vs)) (lt-leb lo v (h 0))
    ∙ none_above lo hi (id + 1) vs (λ i. h (suc i))

-- an upper end above every value may be brought down to the largest that a value can be
pub hi_cut : (lo hi top id : ℕ) (vs : List ℕ) → ((i : ℕ) → get_or vs i 0 ≤ top) → matching_ids lo (min hi top) id vs ≡ matching_ids lo hi id vs
unfolding matching_ids
hi_cut lo hi top id [] h = refl
hi_cut lo hi top id (v ∷ vs) h =
    ap₂ (λ t l. cond (leb lo v && t) (id ∷ l) l) (same (h 0)) (hi_cut lo hi top (id + 1) vs (λ i. h (suc i)))
  where
    same : v ≤ top → leb v (min hi top) ≡ leb v hi
    same under =
        ⊎_elim (λ le. le-leb v (min hi top) (omega arith) ∙ sym (le-leb v hi le)) (λ gt. lt-leb v (min hi top) (omega arith) ∙ sym (lt-leb v hi gt))
        (le_or_lt v hi)

-- ---- ids at the start of the positions

-- one more id behind those that stand there
pub store_id : (ids positions : List ℕ) (id : ℕ) → length ids < length positions
    → set (at_start ids positions) (length ids) id ≡ at_start (ids ++ id ∷ []) positions
store_id ids positions id h =
    let n = length ids in
    ap (λ l. set (ids ++ l) n id) (drop-cons positions n 0 h)
    ∙ set_at ids (get_or positions n 0) (drop (suc n) positions) id n refl
    ∙ sym (append_snoc ids id (drop (suc n) positions))
    ∙ ap (λ k. (ids ++ id ∷ []) ++ drop k positions) (sym (length-append ids (id ∷ []) ∙ add-one n))

-- a place past the ids holds what it held
pub past_the_ids : (ids positions : List ℕ) (i : ℕ) → length ids ≤ i → get_or (at_start ids positions) i 0 ≡ get_or positions i 0
past_the_ids ids positions i h =
    let n = length ids in
    let beyond : i ≡ n + (i - n) = omega arith in
    ap (λ k. get_or (at_start ids positions) k 0) beyond
    ∙ get_or-append-add ids (drop n positions) (i - n) 0
    ∙ get_or-drop n positions (i - n) 0
    ∙ ap (λ k. get_or positions k 0) (sym beyond)

-- what is pasted at place 0 stands at the start
pub paste_first : (ids positions : List ℕ) → pasted_at 0 ids positions ≡ at_start ids positions
paste_first ids positions = ap (λ n. ids ++ drop n positions) (zero-add (length ids))

-- nothing pasted changes nothing
pub paste_none : (at : ℕ) (positions : List ℕ) → pasted_at at [] positions ≡ positions
paste_none at positions = ap (λ n. take at positions ++ drop n positions) (add-zero at) ∙ take-append-drop at positions

-- more ids pasted behind some that were pasted
pub paste_paste : (at : ℕ) (ids more positions : List ℕ) → at ≤ length positions
    → pasted_at (at + length ids) more (pasted_at at ids positions) ≡ pasted_at at (ids ++ more) positions
paste_paste at ids more positions h =
    let front = take at positions in
    let n = length ids in
    let rest = drop (at + n) positions in
    let whole : pasted_at at ids positions ≡ (front ++ ids) ++ rest = sym (append_assoc front ids rest) in
    let placed : length (front ++ ids) ≡ at + n = length-append front ids ∙ ap (λ k. k + n) (length-take-le at positions h) in
    let after : drop (at + n + length more) ((front ++ ids) ++ rest) ≡ drop (at + length (ids ++ more)) positions =
    ap (λ k. drop (k + length more) ((front ++ ids) ++ rest)) (sym placed)
    ∙ drop-append-add (front ++ ids) rest (length more)
    ∙ drop-drop (length more) (at + n) positions
    ∙ ap (λ k. drop k positions) (add_assoc at n (length more) ∙ ap (λ k. at + k) (sym (length-append ids more))) in
    ap (pasted_at (at + n) more) whole
    ∙ ap₂ (λ l r. l ++ (more ++ r)) (take_at (front ++ ids) rest (at + n) placed) after
    ∙ append_assoc front ids (more ++ drop (at + length (ids ++ more)) positions)
    ∙ ap (λ l. front ++ l) (sym (append_assoc ids more (drop (at + length (ids ++ more)) positions)))

pub length-at_start : (ids positions : List ℕ) → length ids ≤ length positions → length (at_start ids positions) ≡ length positions
length-at_start ids positions h = simp (length-append, length-drop) (omega arith)

-- ---- a search that looks at one value after the other

-- Past some values: the ids of those that match, counted from `first` on, are so many, and stand at the start of the positions.
pub record Searched (lo hi first : ℕ) (passed positions₀ : List ℕ) (found : ℕ) (positions : List ℕ) : Type 0 where
  pub counted : found ≡ length (matching_ids lo hi first passed)
  pub stored : positions ≡ at_start (matching_ids lo hi first passed) positions₀
  pub same_length : length positions ≡ length positions₀

pub none_searched : (lo hi first : ℕ) (positions : List ℕ) → Searched lo hi first [] positions 0 positions
unfolding matching_ids
none_searched lo hi first positions = record { counted = refl; stored = refl; same_length = refl }

module _ {lo hi first : ℕ} {passed positions₀ : List ℕ} {found : ℕ} {positions : List ℕ} (so_far : Searched lo hi first passed positions₀ found positions)
    {with-next : List ℕ} (v : ℕ) (next : with-next ≡ passed ++ v ∷ []) where
  -- the next value matches: its id goes behind the others
  pub search_match : {id : ℕ} → lies_between lo hi v ≡ true → id ≡ first + length passed → length passed < length positions₀
      → Searched lo hi first with-next positions₀ (found + 1) (set positions found id)
  search_match {id} match is room =
      let ids = matching_ids lo hi first passed in
      let one_more : matching_ids lo hi first with-next ≡ ids ++ id ∷ [] =
      ap (matching_ids lo hi first) next ∙ matching_then lo hi first passed v match ∙ ap (λ k. ids ++ k ∷ []) (sym is) in
      record {
        counted = omega (arith, so_far.counted, ap length one_more, length-append ids (id ∷ []));
        stored = ap₂ (λ l k. set l k id) so_far.stored so_far.counted
            ∙ store_id ids positions₀ id (omega (arith, matching_le lo hi first passed))
            ∙ ap (λ l. at_start l positions₀) (sym one_more);
        same_length = simp length-set so_far.same_length;
      }

  -- it does not: nothing is written
  pub search_pass : lies_between lo hi v ≡ false → Searched lo hi first with-next positions₀ found positions
  search_pass no-match =
      let same : matching_ids lo hi first with-next ≡ matching_ids lo hi first passed =
      ap (matching_ids lo hi first) next ∙ matching_passed lo hi first passed v no-match in
      record {
        counted = so_far.counted ∙ ap length (sym same);
        stored = so_far.stored ∙ ap (λ l. at_start l positions₀) (sym same);
        same_length = so_far.same_length;
      }
