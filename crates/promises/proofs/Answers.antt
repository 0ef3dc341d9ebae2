-- Each call on the store that accepted values define answers what the paper says of the values, and leaves the store that the values define
-- then: an add that waits by one more place, and a seal by one more block behind the others.
use mathlib.Core.Path.{◌≡◌, refl, sym, ap, ap₂, ◌∙◌, subst}
use mathlib.Core.Logic.{⊎_elim}
use mathlib.Core.Bool.{Bool, true, false, ◌||◌, cond}
use mathlib.Core.List.{List, [], ◌∷◌, ◌++◌, append-nil, append_assoc}
use Prim.Native.Nat.{ℕ, zero, suc, ◌+◌, ◌-◌, ◌*◌, ◌/◌, ◌%◌, ◌^◌, ◌≤◌, ◌<◌}
use native.Mathlib.Omega.{arith}
use lib.Dec.{ltb, eqb-suc-zero}
use lib.ListN.{length, take, drop, set, length-append, length-drop, drop_of_length-le}
use lib.Seq.{take_at, drop-drop, drop-append-add, drop-append-le, take-append_seam, take_all}
use borrow.Author.Tests.{lt-ltb, le-ltb, eq-eqb, ne_eqb, le-leb, lt-leb, ltb-false}
use Rattle.bit_rule.specs.Search.{at_start, pasted_at}
use Rattle.bit_rule.proofs.Search.{store_id, length-at_start}
use Rattle.bit_rule.proofs.Width.{le_or_lt}
use Rattle.block.specs.Block.{block_size, block_bytes, eight_zeros, entry_words, words_per_entry}
use Rattle.block.proofs.BlockLaws.{AreWords}
use Rattle.blocked_bitpacker.specs.Store.{block_limit, none_waiting, store_of, damaged_store, count_of}
use Rattle.refusal.specs.declared.Refusal.TheVariants.{NoRoom, EntriesFull}
use Rattle.refusal.specs.First.{check, first_that_holds}
use Rattle.blocked_bitpacker.specs.Calls.{refused_call, add_of, flush_of, counted_of, get_of, get_range_of, search_of, ids_of, entries_full, no_room_for_block, sealed, seal_or_refuse, waits, waiting_values}
use Rattle.blocked_bitpacker.proofs.Changing.{add_waits as add-that-waits, add_seals as add-that-seals, flush_seals as flush-that-seals}
use Rattle.blocked_bitpacker.proofs.Judged.{neither}
use Rattle.promises.specs.Reply.{values, refusal, Answer}
use Rattle.promises.specs.Defined.{Held, held, blocks_by, block_at, used_by, bytes_by, entries_by, waiting_by, last_length_by, store_by, held_by}
use Rattle.promises.specs.Histories.{Call, add, flush, count, get, range, search, Outcome, gives, outcome_of, changes, taken, closing}
use Rattle.promises.specs.Paper.{no_entry, no_space, add_reply, flush_reply, get_reply, range_answer, search_answer, says, paper_answer}
use Rattle.promises.proofs.Cutting.{used_by_next, bytes_by_next, entries_by_next, used_by-append, bytes_by-append, entries_by-append, length-bytes_by, length-entries_by}
use Rattle.promises.proofs.Honest.{Fits, same_bytes, same_entries, not_damaged, flag_is, count_is, value_is, values_are, index_fine, untouched}

-- ---- reading

module _ (vs : List ℕ) (closed : Bool) (bytes₀ entries₀ : List ℕ) (fits : Fits vs closed bytes₀ entries₀) where
  abbrev h : Held
  h = held_by vs closed bytes₀ entries₀

  abbrev answered : Answer → Outcome
  answered a = record { answer = a; left = h }

  abbrev fine : damaged_store (store_by vs closed) (length h.bytes) (length h.entries) ≡ false
  unfolding held_by
  fine = not_damaged vs closed bytes₀ entries₀ fits

  counted : count_of (store_by vs closed) ≡ length vs
  counted = count_is vs closed bytes₀ entries₀ fits

  pub count_answers : outcome_of count h ≡ gives (values (length vs ∷ [])) [] h
  unfolding outcome_of counted_of held_by
  count_answers = simp (fine, counted)

  pub get_answers : (i : ℕ) → outcome_of (get i) h ≡ gives (get_reply vs i) [] h
  unfolding outcome_of get_of get_reply held_by
  get_answers i =
      simp (fine, counted)
      (⊎_elim (λ past. simp (le-leb (length vs) i past))
      (λ inside. simp (lt-leb (length vs) i inside, index_fine vs closed bytes₀ entries₀ fits i, value_is vs closed bytes₀ entries₀ fits i inside))
      (le_or_lt (length vs) i))

  pub range_answers : (start : ℕ) (out : List ℕ) → outcome_of (range start out) h ≡ answered (range_answer vs start out)
  unfolding outcome_of get_range_of range_answer held_by
  range_answers start [] = simp fine
  range_answers start (x ∷ out) =
      let n = suc (length out) in
      simp (fine, counted, eqb-suc-zero (length out))
      (⊎_elim
      (λ inside. simp (le-ltb (length vs) (start + n) inside, untouched vs closed bytes₀ entries₀ fits start (start + n), values_are vs closed bytes₀ entries₀ fits start n inside))
      (λ past. simp (lt-ltb (length vs) (start + n) past))
      (le_or_lt (start + n) (length vs)))

  pub search_answers : (lo hi start end : ℕ) (positions : List ℕ)
      → outcome_of (search lo hi start end positions) h ≡ answered (search_answer vs lo hi start end positions)
  unfolding outcome_of search_of ids_of search_answer held_by
  search_answers lo hi start end positions =
      simp (fine, counted)
      (⊎_elim (λ none. simp (le-leb end start none))
      (λ some.
      ⊎_elim
      (λ inside.
      ⊎_elim
      (λ room.
      simp (lt-leb end start some, le-ltb (length vs) end inside, le-ltb (length positions) (end - start) room, untouched vs closed bytes₀ entries₀ fits start end, values_are vs closed bytes₀ entries₀ fits start (end - start) (omega arith)))
      (λ tight. simp (lt-leb end start some, le-ltb (length vs) end inside, lt-ltb (length positions) (end - start) tight))
      (le_or_lt (end - start) (length positions)))
      (λ past. simp (lt-leb end start some, lt-ltb (length vs) end past))
      (le_or_lt end (length vs)))
      (le_or_lt end start))

-- ---- changing

-- over what followed a list at the start, another list is pasted behind it
paste_over : (at : ℕ) (xs old new area : List ℕ) → length xs ≡ at → length old ≤ length new → pasted_at at new (at_start (xs ++ old) area) ≡ at_start (xs ++ new) area
paste_over at xs old new area place more =
    let rest = drop (length (xs ++ old)) area in
    let k = length new - length old in
    let front : take at (at_start (xs ++ old) area) ≡ xs = ap (take at) (append_assoc xs old rest) ∙ take_at xs (old ++ rest) at place in
    let beyond : at + length new ≡ length (xs ++ old) + k = omega (arith, length-append xs old) in
    let end : length (xs ++ old) + k ≡ length (xs ++ new) = omega (arith, length-append xs old, length-append xs new) in
    let behind : drop (at + length new) (at_start (xs ++ old) area) ≡ drop (length (xs ++ new)) area =
    ap (λ m. drop m (at_start (xs ++ old) area)) beyond
    ∙ drop-append-add (xs ++ old) rest k
    ∙ drop-drop k (length (xs ++ old)) area
    ∙ ap (λ m. drop m area) end in
    ap₂ (λ l r. l ++ (new ++ r)) front behind ∙ sym (append_assoc xs new (drop (length (xs ++ new)) area))

-- What a call comes to: the paper's answer, and the store that the values then accepted define.
pub record Next (c : Call) (vs : List ℕ) (closed : Bool) (bytes entries : List ℕ) : Type 0 where
  pub vs' : List ℕ
  pub closed' : Bool
  pub comes_to : outcome_of c (held_by vs closed bytes entries)
      ≡ record { answer = paper_answer c vs closed (length bytes) (length entries); left = held_by vs' closed' bytes entries }
  pub grown : vs' ≡ vs ++ taken c (paper_answer c vs closed (length bytes) (length entries)).reply
  pub flag : closed' ≡ (closed || closing c (paper_answer c vs closed (length bytes) (length entries)).reply (length (waiting_by vs closed)))
  pub fits : Fits vs' closed' bytes entries

-- a call that reads
module _ (vs : List ℕ) (closed : Bool) (bytes₀ entries₀ : List ℕ) (fits : Fits vs closed bytes₀ entries₀) where
  never_closing : closed ≡ (closed || false)
  never_closing = by_flag closed
    where
      by_flag : (c : Bool) → c ≡ (c || false)
      by_flag true = refl
      by_flag false = refl

  -- nothing is added and nothing is closed
  pub unchanged : (c : Call) → outcome_of c (held_by vs closed bytes₀ entries₀)
      ≡ record { answer = paper_answer c vs closed (length bytes₀) (length entries₀); left = held_by vs closed bytes₀ entries₀ }
      → taken c (paper_answer c vs closed (length bytes₀) (length entries₀)).reply ≡ []
      → closing c (paper_answer c vs closed (length bytes₀) (length entries₀)).reply (length (waiting_by vs closed)) ≡ false
      → Next c vs closed bytes₀ entries₀
  unchanged c is none open-still =
      record {
        vs' = vs;
        closed' = closed;
        comes_to = is;
        grown = sym (ap (λ l. vs ++ l) none ∙ append-nil vs);
        flag = never_closing ∙ ap (λ b. closed || b) (sym open-still);
        fits = fits;
      }

  pub count_next : Next count vs closed bytes₀ entries₀
  unfolding paper_answer
  count_next = unchanged count (count_answers vs closed bytes₀ entries₀ fits) refl refl

  pub get_next : (i : ℕ) → Next (get i) vs closed bytes₀ entries₀
  unfolding paper_answer
  get_next i = unchanged (get i) (get_answers vs closed bytes₀ entries₀ fits i) refl refl

  pub range_next : (start : ℕ) (out : List ℕ) → Next (range start out) vs closed bytes₀ entries₀
  unfolding paper_answer
  range_next start out = unchanged (range start out) (range_answers vs closed bytes₀ entries₀ fits start out) refl refl

  pub search_next : (lo hi start end : ℕ) (positions : List ℕ) → Next (search lo hi start end positions) vs closed bytes₀ entries₀
  unfolding paper_answer
  search_next lo hi start end positions =
      unchanged (search lo hi start end positions) (search_answers vs closed bytes₀ entries₀ fits lo hi start end positions) refl refl

-- ---- a closed store

module _ (vs bytes₀ entries₀ : List ℕ) (fits : Fits vs true bytes₀ entries₀) where
  pub add_closed : (v : ℕ) → Next (add v) vs true bytes₀ entries₀
  unfolding paper_answer add_reply outcome_of add_of held_by
  add_closed v =
      unchanged vs true bytes₀ entries₀ fits (add v)
      (simp (not_damaged vs true bytes₀ entries₀ fits, flag_is vs true bytes₀ entries₀ fits)) refl refl

  pub flush_closed : Next flush vs true bytes₀ entries₀
  unfolding paper_answer flush_reply outcome_of flush_of held_by store_by
  flush_closed =
      unchanged vs true bytes₀ entries₀ fits flush (simp (not_damaged vs true bytes₀ entries₀ fits)) refl refl

-- ---- an open store

append_words : (vs : List ℕ) (v : ℕ) → AreWords vs → v < 2 ^ 64 → AreWords (vs ++ v ∷ [])
append_words [] v are word zero = word
append_words [] v are word (suc i) = omega arith
append_words (u ∷ us) v are word zero = are 0
append_words (u ∷ us) v are word (suc i) = append_words us v (λ j. are (suc j)) word i

module _ (vs bytes₀ entries₀ : List ℕ) (fits : Fits vs false bytes₀ entries₀) where
  abbrev n : ℕ
  n = length vs / 128

  -- what waits
  abbrev W : List ℕ
  W = drop (128 * n) vs

  waiting_is : length W ≡ length vs % 128
  waiting_is = omega (arith, length-drop (128 * n) vs)

  abbrev now : Held
  now = held_by vs false bytes₀ entries₀

  open_fine : damaged_store now.store (length now.bytes) (length now.entries) ≡ false
  unfolding held_by
  open_fine = not_damaged vs false bytes₀ entries₀ fits

  -- one more value waits
  waits_left : (v : ℕ) → length vs % 128 < 127 → held (waits now.store v) now.bytes now.entries ≡ held_by (vs ++ v ∷ []) false bytes₀ entries₀
  unfolding held_by store_by
  waits_left v few =
      let more = vs ++ v ∷ [] in
      let long : length more ≡ length vs + 1 = length-append vs (v ∷ []) in
      let same : length more / 128 ≡ n = omega arith in
      let whole : 128 * n ≤ length vs = omega arith in
      let still : drop (128 * n) more ≡ W ++ v ∷ [] = drop-append-le (128 * n) vs (v ∷ []) whole in
      let places : set (at_start W none_waiting) (length W) v ≡ at_start (W ++ v ∷ []) none_waiting = store_id W none_waiting v (omega (arith, waiting_is)) in
      sym
      (ap (λ m. held (store_of (at_start (drop (128 * m) more) none_waiting) (used_by more m) m (length (drop (128 * m) more)) 0) (at_start (bytes_by more m ++ eight_zeros) bytes₀) (at_start (entries_by more m) entries₀)) same
      ∙ ap₂ (λ l u. held (store_of (at_start l none_waiting) u n (length l) 0) (at_start (bytes_by more n ++ eight_zeros) bytes₀) (at_start (entries_by more n) entries₀)) still (used_by-append vs (v ∷ []) n whole)
      ∙ ap₂ (λ b e. held (store_of (at_start (W ++ v ∷ []) none_waiting) (used_by vs n) n (length (W ++ v ∷ [])) 0) (at_start (b ++ eight_zeros) bytes₀) (at_start e entries₀)) (bytes_by-append vs (v ∷ []) n whole) (entries_by-append vs (v ∷ []) n whole)
      ∙ ap₂ (λ l m. held (store_of l (used_by vs n) n m 0) now.bytes now.entries) (sym places) (length-append W (v ∷ [])))

  open_last : now.store.last_length ≤ 0
  unfolding held_by store_by
  open_last = omega arith

  waiting_count : now.store.waiting ≡ length vs % 128
  unfolding held_by store_by
  waiting_count = waiting_is

  -- the values that now wait fit as before
  waits_fit : (v : ℕ) → v < 2 ^ 64 → length vs % 128 < 127 → Fits (vs ++ v ∷ []) false bytes₀ entries₀
  waits_fit v word few =
      let long : length (vs ++ v ∷ []) ≡ length vs + 1 = length-append vs (v ∷ []) in
      let same : n ≡ length (vs ++ v ∷ []) / 128 = omega arith in
      let used : used_by vs n ≡ used_by (vs ++ v ∷ []) n = sym (used_by-append vs (v ∷ []) n (omega arith)) in
      record {
        words = append_words vs v fits.words word;
        limit = subst (λ m. m ≤ block_limit) same fits.limit;
        room = subst (λ m. used_by (vs ++ v ∷ []) m + 8 ≤ length bytes₀) same (subst (λ u. u + 8 ≤ length bytes₀) used fits.room);
        entry_room = subst (λ m. m * words_per_entry ≤ length entries₀) same fits.entry_room;
        short = λ e. absurd (let z : ◌≡◌ {A = ℕ} 0 1 = cc in omega arith);
      }

  pub add_waits : (v : ℕ) → v < 2 ^ 64 → length vs % 128 < 127 → Next (add v) vs false bytes₀ entries₀
  unfolding outcome_of paper_answer add_reply
  add_waits v word few =
      let said = paper_waits in
      record {
        vs' = vs ++ v ∷ [];
        closed' = false;
        comes_to =
            ap changes (sym (add-that-waits now.store now.bytes now.entries open_fine v open_last (omega (arith, waiting_count))))
            ∙ ap (gives (values []) []) (waits_left v few)
            ∙ ap (λ a. record { answer = a; left = held_by (vs ++ v ∷ []) false bytes₀ entries₀ }) (sym said);
        grown = sym (ap (λ a. vs ++ taken (add v) a.reply) said);
        flag = refl;
        fits = waits_fit v word few;
      }
    where
      paper_waits : paper_answer (add v) vs false (length bytes₀) (length entries₀) ≡ says (values [])
      paper_waits = simp (ne_eqb (length vs % 128) 127 (λ e. omega arith))

  -- ---- a seal

  whole_before : 128 * n ≤ length vs
  whole_before = omega arith

  -- its two tests are the paper's
  entry_test : entries_full now.store now.entries ≡ no_entry n (length entries₀)
  unfolding held_by store_by
  entry_test = ap (no_entry n) (same_entries vs false bytes₀ entries₀ fits)

  module _ (us : List ℕ) where
    -- the values after it, and the block that it seals
    abbrev more : List ℕ
    more = vs ++ us

    abbrev block : List ℕ
    block = block_at more n

    space_test : no_room_for_block now.store block now.bytes ≡ no_space more n (length bytes₀)
    unfolding held_by store_by
    space_test =
        ap₂ (λ area used. ltb area (used + block_size block + 8)) (same_bytes vs false bytes₀ entries₀ fits) (sym (used_by-append vs us n whole_before))

    -- one more block, and nothing waits
    seal_left : (closed' : Bool) → blocks_by more closed' ≡ n + 1 → waiting_by more closed' ≡ []
        → held (store_of none_waiting (now.store.used + block_size block) (now.store.blocks + 1) 0 (last_length_by more closed'))
        (pasted_at now.store.used (block_bytes block ++ eight_zeros) now.bytes)
        (pasted_at (words_per_entry * now.store.blocks) (entry_words now.store.used block) now.entries)
        ≡ held_by more closed' bytes₀ entries₀
    unfolding held_by store_by
    seal_left closed' one_more none =
        let last = last_length_by more closed' in
        let used : used_by more n ≡ used_by vs n = used_by-append vs us n whole_before in
        let all-used : used_by more (n + 1) ≡ used_by vs n + block_size block = used_by_next more n ∙ ap (λ u. u + block_size block) used in
        let all-bytes : bytes_by more (n + 1) ++ eight_zeros ≡ bytes_by vs n ++ (block_bytes block ++ eight_zeros) =
        ap (λ l. l ++ eight_zeros) (bytes_by_next more n ∙ ap (λ l. l ++ block_bytes block) (bytes_by-append vs us n whole_before))
        ∙ append_assoc (bytes_by vs n) (block_bytes block) eight_zeros in
        let all-entries : entries_by more (n + 1) ≡ entries_by vs n ++ entry_words (used_by vs n) block =
        entries_by_next more n ∙ ap₂ (λ l u. l ++ entry_words u block) (entries_by-append vs us n whole_before) used in
        let new-bytes : pasted_at (used_by vs n) (block_bytes block ++ eight_zeros) (at_start (bytes_by vs n ++ eight_zeros) bytes₀) ≡ at_start (bytes_by more (n + 1) ++ eight_zeros) bytes₀ =
        paste_over (used_by vs n) (bytes_by vs n) eight_zeros (block_bytes block ++ eight_zeros) bytes₀ (length-bytes_by vs n) (omega (arith, length-append (block_bytes block) eight_zeros))
        ∙ ap (λ l. at_start l bytes₀) (sym all-bytes) in
        let new-entries : pasted_at (words_per_entry * n) (entry_words (used_by vs n) block) (at_start (entries_by vs n) entries₀) ≡ at_start (entries_by more (n + 1)) entries₀ =
        ap (λ l. pasted_at (words_per_entry * n) (entry_words (used_by vs n) block) (at_start l entries₀)) (sym (append-nil (entries_by vs n)))
        ∙ paste_over (words_per_entry * n) (entries_by vs n) [] (entry_words (used_by vs n) block) entries₀ (omega (arith, length-entries_by vs n)) (omega arith)
        ∙ ap (λ l. at_start l entries₀) (sym all-entries) in
        sym
        (ap₂ (λ l m. held (store_of (at_start l none_waiting) (used_by more m) m (length l) last) (at_start (bytes_by more m ++ eight_zeros) bytes₀) (at_start (entries_by more m) entries₀)) none one_more
        ∙ ap (λ u. held (store_of none_waiting u (n + 1) 0 last) (at_start (bytes_by more (n + 1) ++ eight_zeros) bytes₀) (at_start (entries_by more (n + 1)) entries₀)) all-used
        ∙ ap₂ (λ b e. held (store_of none_waiting (used_by vs n + block_size block) (n + 1) 0 last) b e) (sym new-bytes) (sym new-entries))

    -- by its two tests: refused 5, refused 4, or done
    seal_comes : (closed' : Bool) → blocks_by more closed' ≡ n + 1 → waiting_by more closed' ≡ []
        → changes (seal_or_refuse now.store block (last_length_by more closed') now.bytes now.entries)
        ≡ first_that_holds
        (check (no_entry n (length entries₀)) (gives (refusal 5) [] now)
        ∷ check (no_space more n (length bytes₀)) (gives (refusal 4) [] now)
        ∷ [])
        (gives (values []) [] (held_by more closed' bytes₀ entries₀))
    unfolding seal_or_refuse sealed
    seal_comes closed' one_more none =
        by_tests (entries_full now.store now.entries) (no_room_for_block now.store block now.bytes) entry_test space_test
      where
        done : Outcome
        done = gives (values []) [] (held_by more closed' bytes₀ entries₀)

        by_tests : (e r : Bool) → e ≡ no_entry n (length entries₀) → r ≡ no_space more n (length bytes₀)
            → changes
            (cond e (refused_call EntriesFull now.store now.bytes now.entries)
            (cond r (refused_call NoRoom now.store now.bytes now.entries)
            (sealed now.store block (last_length_by more closed') now.bytes now.entries)))
            ≡ cond (no_entry n (length entries₀)) (gives (refusal 5) [] now) (cond (no_space more n (length bytes₀)) (gives (refusal 4) [] now) done)
        by_tests true r e-is r-is = ap (λ e. cond e (gives (refusal 5) [] now) (cond (no_space more n (length bytes₀)) (gives (refusal 4) [] now) done)) e-is
        by_tests false true e-is r-is =
            ap₂ (λ e r. cond e (gives (refusal 5) [] now) (cond r (gives (refusal 4) [] now) done)) e-is r-is
        by_tests false false e-is r-is =
            ap (gives (values []) []) (seal_left closed' one_more none)
            ∙ ap₂ (λ e r. cond e (gives (refusal 5) [] now) (cond r (gives (refusal 4) [] now) done)) e-is r-is

    sealed_fits : (closed' : Bool) → blocks_by more closed' ≡ n + 1 → AreWords more → (closed' ≡ true → 0 < length more % 128)
        → no_entry n (length entries₀) ≡ false → no_space more n (length bytes₀) ≡ false → Fits more closed' bytes₀ entries₀
    sealed_fits closed' one_more are short entry space =
        let both = neither (ltb block_limit (n + 1)) (ltb (length entries₀) (words_per_entry * (n + 1))) entry in
        let room : used_by more n + block_size block + 8 ≤ length bytes₀ = ltb-false _ _ space in
        let few : n + 1 ≤ block_limit = ltb-false _ _ both.0 in
        let there : words_per_entry * (n + 1) ≤ length entries₀ = ltb-false _ _ both.1 in
        record {
          words = are;
          limit = omega arith;
          room = subst (λ m. used_by more m + 8 ≤ length bytes₀) (sym one_more) (subst (λ u. u + 8 ≤ length bytes₀) (sym (used_by_next more n)) room);
          entry_room = omega arith;
          short = short;
        }

    -- a call that seals, by the two tests
    seals_next : (c : Call) (closed' : Bool)
        → outcome_of c now
        ≡ first_that_holds
        (check (no_entry n (length entries₀)) (gives (refusal 5) [] now) ∷ check (no_space more n (length bytes₀)) (gives (refusal 4) [] now) ∷ [])
        (gives (values []) [] (held_by more closed' bytes₀ entries₀))
        → paper_answer c vs false (length bytes₀) (length entries₀)
        ≡ says (first_that_holds (check (no_entry n (length entries₀)) (refusal 5) ∷ check (no_space more n (length bytes₀)) (refusal 4) ∷ []) (values []))
        → ((k : ℕ) → taken c (refusal k) ≡ []) → ((k : ℕ) → closing c (refusal k) (length (waiting_by vs false)) ≡ false)
        → us ≡ taken c (values []) → closed' ≡ closing c (values []) (length (waiting_by vs false))
        → (no_entry n (length entries₀) ≡ false → no_space more n (length bytes₀) ≡ false → Fits more closed' bytes₀ entries₀)
        → Next c vs false bytes₀ entries₀
    seals_next c closed' is paper no_value no-closing value closes fit =
        by_tests (no_entry n (length entries₀)) (no_space more n (length bytes₀)) refl refl
      where
        refused : (k : ℕ) → outcome_of c now ≡ gives (refusal k) [] now → paper_answer c vs false (length bytes₀) (length entries₀) ≡ says (refusal k) → Next c vs false bytes₀ entries₀
        refused k came said =
            unchanged vs false bytes₀ entries₀ fits c (came ∙ ap (λ a. record { answer = a; left = now }) (sym said))
            (ap (λ a. taken c a.reply) said ∙ no_value k) (ap (λ a. closing c a.reply (length (waiting_by vs false))) said ∙ no-closing k)

        first : Bool → Bool → Outcome
        first e r = cond e (gives (refusal 5) [] now) (cond r (gives (refusal 4) [] now) (gives (values []) [] (held_by more closed' bytes₀ entries₀)))

        said_first : Bool → Bool → Answer
        said_first e r = says (cond e (refusal 5) (cond r (refusal 4) (values [])))

        by_tests : (e r : Bool) → no_entry n (length entries₀) ≡ e → no_space more n (length bytes₀) ≡ r → Next c vs false bytes₀ entries₀
        by_tests true r e-is r-is =
            refused 5 (is ∙ ap (λ e. first e (no_space more n (length bytes₀))) e-is) (paper ∙ ap (λ e. said_first e (no_space more n (length bytes₀))) e-is)
        by_tests false true e-is r-is = refused 4 (is ∙ ap₂ first e-is r-is) (paper ∙ ap₂ said_first e-is r-is)
        by_tests false false e-is r-is =
            let said = paper ∙ ap₂ said_first e-is r-is in
            record {
              vs' = more;
              closed' = closed';
              comes_to = is ∙ ap₂ first e-is r-is ∙ ap (λ a. record { answer = a; left = held_by more closed' bytes₀ entries₀ }) (sym said);
              grown = ap (λ l. vs ++ l) (value ∙ sym (ap (λ a. taken c a.reply) said));
              flag = closes ∙ sym (ap (λ a. closing c a.reply (length (waiting_by vs false))) said);
              fits = fit e-is r-is;
            }

  -- the 128th value
  pub add_seals : (v : ℕ) → v < 2 ^ 64 → length vs % 128 ≡ 127 → Next (add v) vs false bytes₀ entries₀
  unfolding outcome_of paper_answer add_reply held_by store_by
  add_seals v word last =
      let more = vs ++ v ∷ [] in
      let long : length more ≡ length vs + 1 = length-append vs (v ∷ []) in
      let one_more : length more / 128 ≡ n + 1 = omega arith in
      let none : drop (128 * (length more / 128)) more ≡ [] = drop_of_length-le more {i = 128 * (length more / 128)} (omega arith) in
      let joined : drop (128 * n) more ≡ W ++ v ∷ [] = drop-append-le (128 * n) vs (v ∷ []) whole_before in
      let size : length (W ++ v ∷ []) ≡ 128 = omega (arith, length-append W (v ∷ []), waiting_is) in
      let block-is : set (at_start W none_waiting) (length W) v ≡ block_at more n =
      store_id W none_waiting v (omega (arith, waiting_is))
      ∙ ap (λ l. (W ++ v ∷ []) ++ l) (drop_of_length-le none_waiting {i = length (W ++ v ∷ [])} (omega arith))
      ∙ append-nil (W ++ v ∷ [])
      ∙ sym (ap (take 128) joined ∙ take_all 128 (W ++ v ∷ []) (omega arith)) in
      seals_next (v ∷ []) (add v) false
      (ap changes
      (sym (add-that-seals now.store now.bytes now.entries open_fine v open_last (omega (arith, waiting_count)) (length-at_start W none_waiting (omega (arith, waiting_is))))
      ∙ ap (λ l. seal_or_refuse now.store l 0 now.bytes now.entries) block-is)
      ∙ seal_comes (v ∷ []) false one_more none)
      (simp (eq-eqb (length vs % 128) 127 last)) (λ k. refl) (λ k. refl) refl refl
      (sealed_fits (v ∷ []) false one_more (append_words vs v fits.words word) (λ e. absurd (let z : ◌≡◌ {A = ℕ} 0 1 = cc in omega arith)))

  -- a flush with nothing waiting
  pub flush_nothing : length vs % 128 ≡ 0 → Next flush vs false bytes₀ entries₀
  unfolding outcome_of paper_answer flush_reply flush_of
  flush_nothing none =
      unchanged vs false bytes₀ entries₀ fits flush
      (simp (open_fine, eq-eqb now.store.waiting 0 (waiting_count ∙ none), eq-eqb (length vs % 128) 0 none))
      refl (simp (eq-eqb (length vs % 128) 0 none) (le-ltb 0 (length W) (omega (arith, waiting_is))))

  -- a flush that seals what waits, and closes
  pub flush_seals : 0 < length vs % 128 → Next flush vs false bytes₀ entries₀
  unfolding outcome_of paper_answer flush_reply held_by store_by
  flush_seals some =
      let more = vs ++ [] in
      let same : more ≡ vs = append-nil vs in
      let one_more : (length more + 127) / 128 ≡ n + 1 = omega (arith, ap length same) in
      let last : length more % 128 ≡ length W = ap (λ l. length l % 128) same ∙ sym waiting_is in
      let block-is : waiting_values now.store ≡ block_at more n =
      take-append_seam W (drop (length W) none_waiting)
      ∙ sym (ap (λ l. block_at l n) same ∙ take_all 128 W (omega (arith, waiting_is))) in
      seals_next [] flush true
      (ap changes
      (sym (flush-that-seals now.store now.bytes now.entries open_fine (λ none. omega (arith, waiting_count)))
      ∙ ap₂ (λ l m. seal_or_refuse now.store l m now.bytes now.entries) block-is (sym last))
      ∙ seal_comes [] true one_more refl)
      (simp (ne_eqb (length vs % 128) 0 (λ none. omega arith))
      (ap (λ l. says (cond (no_entry n (length entries₀)) (refusal 5) (cond (no_space l n (length bytes₀)) (refusal 4) (values [])))) (sym same)))
      (λ k. refl) (λ k. refl) refl (sym (lt-ltb 0 (length W) (omega (arith, waiting_is))))
      (sealed_fits [] true one_more (subst AreWords (sym same) fits.words) (λ e. omega (arith, ap length same)))
