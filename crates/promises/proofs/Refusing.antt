-- A refusal changes nothing: each check that refuses gives the store, the areas and what was lent as they came, and a call that no check
-- refuses does not answer a refusal. By the checks of each call, whatever they test.
use Rattle.std.specs.Prelude.{Ok, Err, Result}
use mathlib.Core.Path.{◌≡◌, ap}
use mathlib.Core.Bool.{Bool, true, false, ◌&&◌, cond}
use mathlib.Core.List.{List, [], ◌∷◌, ◌++◌}
use Prim.Native.Nat.{ℕ, ◌+◌, ◌/◌}
use native.Mathlib.Omega.{arith}
use lib.Dec.{leb, ltb, eqb}
use lib.ListN.{length}
use Rattle.refusal.specs.declared.Refusal.{Refusal}
use Rattle.refusal.specs.declared.Refusal.TheVariants.{NoRoom, EntriesFull, Closed, NoSuchIndex, Damaged}
use Rattle.refusal.specs.Number.{number_of}
use Rattle.refusal.specs.Done.{done}
use Rattle.bitunpacker.specs.Unpacker.{Range, range, Search, search, no_room}
use Rattle.block.specs.Block.{damaged_entry}
use Rattle.blocked_bitpacker.specs.Calls.{Changed, changed, answered, refused_call, add_of, flush_of, counted_of, get_of, get_range_of, search_of, sealed, waits, waiting_values, entries_full, no_room_for_block}
use Rattle.blocked_bitpacker.specs.Store.{is_closed, damaged_store, count_of, in_block, length_of_block, touched_damaged}
use Rattle.blocked_bitpacker.specs.declared.BlockedBitpacker.{BlockedBitpacker}
use Rattle.promises.specs.Reply.{values, refusal, number_reply}
use Rattle.promises.specs.Defined.{Held, held}
use Rattle.promises.specs.Histories.{add, flush, count, get, range as rangeCall, search as searchCall, Outcome, gives, changes, fills, finds, outcome_of}
use Rattle.promises.specs.Promises.{ARefusalChangesNothing}

-- Of an outcome: where it refuses, it leaves what was there.
unfoldable Keeps : List ℕ → Held → Outcome → Type 0
Keeps lent h o = (k : ℕ) → o.answer.reply ≡ refusal k → o ≡ gives (refusal k) lent h

module _ (lent : List ℕ) (h : Held) where
  -- an outcome that refuses, and keeps
  refuses : (n : ℕ) → Keeps lent h (gives (refusal n) lent h)
  unfolding Keeps
  refuses n k is = let same : n ≡ k = cc in ap (λ m. gives (refusal m) lent h) same

  -- an outcome that does not refuse
  does_not : (vs after : List ℕ) (left : Held) → Keeps lent h (gives (values vs) after left)
  unfolding Keeps
  does_not vs after left k is = absurd (let z : ◌≡◌ {A = ℕ} 0 1 = cc in omega arith)

-- one check more in front
checked : {A : Type 0} (Fine : A → Type 0) (test : Bool) (a b : A) → Fine a → Fine b → Fine (cond test a b)
checked Fine true a b keeps others = keeps
checked Fine false a b keeps others = others

module _ (h : Held) where
  unfoldable ChangeKeeps : Changed → Type 0
  ChangeKeeps c = Keeps [] h (changes c)

  refused_change : (why : Refusal) → ChangeKeeps (refused_call why h.store h.bytes h.entries)
  unfolding ChangeKeeps
  refused_change why = refuses [] h (number_of why)

  done_change : (s : BlockedBitpacker) (bytes entries : List ℕ) → ChangeKeeps (changed (answered done s) bytes entries)
  unfolding ChangeKeeps
  done_change s bytes entries = does_not [] h [] [] (held s bytes entries)

  abbrev s : BlockedBitpacker
  s = h.store

  -- what a call that changes the store tests
  damaged : Bool
  damaged = damaged_store s (length h.bytes) (length h.entries)

  add_keeps : (v : ℕ) → ChangeKeeps (add_of s v h.bytes h.entries)
  unfolding add_of sealed damaged
  add_keeps v =
      let seals = eqb s.waiting 127 in
      let vs = waiting_values s ++ v ∷ [] in
      checked ChangeKeeps damaged _ _ (refused_change Damaged)
      (checked ChangeKeeps (is_closed s) _ _ (refused_change Closed)
      (checked ChangeKeeps (seals && entries_full s h.entries) _ _ (refused_change EntriesFull)
      (checked ChangeKeeps (seals && no_room_for_block s vs h.bytes) _ _ (refused_change NoRoom)
      (checked ChangeKeeps seals (sealed s vs 0 h.bytes h.entries) _ (done_change _ _ _) (done_change (waits s v) h.bytes h.entries)))))

  flush_keeps : ChangeKeeps (flush_of s h.bytes h.entries)
  unfolding flush_of sealed damaged
  flush_keeps =
      checked ChangeKeeps damaged _ _ (refused_change Damaged)
      (checked ChangeKeeps (eqb s.waiting 0) _ _ (done_change s h.bytes h.entries)
      (checked ChangeKeeps (entries_full s h.entries) _ _ (refused_change EntriesFull)
      (checked ChangeKeeps (no_room_for_block s (waiting_values s) h.bytes) _ (sealed s (waiting_values s) s.waiting h.bytes h.entries) (refused_change NoRoom) (done_change _ _ _))))

  -- ---- reading

  unfoldable CountKeeps : Result ℕ Refusal → Type 0
  CountKeeps r = Keeps [] h (gives (number_reply r) [] h)

  count_keeps : CountKeeps (counted_of s h.bytes h.entries)
  unfolding counted_of CountKeeps damaged
  count_keeps = checked CountKeeps damaged (Err Damaged) (Ok (count_of s)) (refuses [] h 8) (does_not [] h (count_of s ∷ []) [] h)

  unfoldable GetKeeps : Result ℕ Refusal → Type 0
  GetKeeps r = Keeps [] h (gives (number_reply r) [] h)

  refused_get : (why : Refusal) → GetKeeps (Err why)
  unfolding GetKeeps
  refused_get why = refuses [] h (number_of why)

  got : (v : ℕ) → GetKeeps (Ok v)
  unfolding GetKeeps
  got v = does_not [] h (v ∷ []) [] h

  get_keeps : (i : ℕ) → GetKeeps (get_of s i h.bytes h.entries)
  unfolding get_of damaged
  get_keeps i =
      checked GetKeeps damaged _ _ (refused_get Damaged)
      (checked GetKeeps (leb (count_of s) i) _ _ (refused_get NoSuchIndex)
      (checked GetKeeps (in_block s i && damaged_entry s.used (length_of_block s (i / 128)) (i / 128) h.entries) _ _ (refused_get Damaged) (got _)))

  module _ (out : List ℕ) where
    unfoldable RangeKeeps : Range → Type 0
    RangeKeeps r = Keeps out h (fills h r)

    refused_range : (why : Refusal) → RangeKeeps (range (Err why) out)
    unfolding RangeKeeps
    refused_range why = refuses out h (number_of why)

    filled : (read : List ℕ) → RangeKeeps (range done read)
    unfolding RangeKeeps
    filled read = does_not out h [] read h

    range_keeps : (start : ℕ) → RangeKeeps (get_range_of s start h.bytes h.entries out)
    unfolding get_range_of damaged
    range_keeps start =
        checked RangeKeeps damaged _ _ (refused_range Damaged)
        (checked RangeKeeps (eqb (length out) 0) _ _ (filled out)
        (checked RangeKeeps (ltb (count_of s) (start + length out)) _ _ (refused_range NoSuchIndex)
        (checked RangeKeeps (touched_damaged s h.entries start (start + length out)) _ _ (refused_range Damaged) (filled _))))

  module _ (positions : List ℕ) where
    unfoldable SearchKeeps : Search → Type 0
    SearchKeeps r = Keeps positions h (finds h r)

    refused_search : (why : Refusal) → SearchKeeps (search (Err why) positions)
    unfolding SearchKeeps
    refused_search why = refuses positions h (number_of why)

    found : (n : ℕ) (left : List ℕ) → SearchKeeps (search (Ok n) left)
    unfolding SearchKeeps
    found n left = does_not positions h (n ∷ []) left h

    search_keeps : (lo hi start end : ℕ) → SearchKeeps (search_of s lo hi start end h.bytes h.entries positions)
    unfolding search_of damaged
    search_keeps lo hi start end =
        checked SearchKeeps damaged _ _ (refused_search Damaged)
        (checked SearchKeeps (leb end start) _ _ (found 0 positions)
        (checked SearchKeeps (ltb (count_of s) end) _ _ (refused_search NoSuchIndex)
        (checked SearchKeeps (no_room start end positions) _ _ (refused_search NoRoom)
        (checked SearchKeeps (touched_damaged s h.entries start end) _ _ (refused_search Damaged) (found _ _)))))

-- Whatever the store and its areas, and whatever is asked: what refuses leaves everything as it was.
pub a_refusal_changes_nothing : ARefusalChangesNothing
unfolding outcome_of Keeps ChangeKeeps CountKeeps GetKeeps RangeKeeps SearchKeeps
a_refusal_changes_nothing (add v) h = add_keeps h v
a_refusal_changes_nothing flush h = flush_keeps h
a_refusal_changes_nothing count h = count_keeps h
a_refusal_changes_nothing (get i) h = get_keeps h i
a_refusal_changes_nothing (rangeCall start out) h = range_keeps h out start
a_refusal_changes_nothing (searchCall lo hi start end positions) h = search_keeps h positions lo hi start end
