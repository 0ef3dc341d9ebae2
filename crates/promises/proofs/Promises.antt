-- The promises, each from what a history comes to (`lived`): the store that its accepted values define, of which every call's answer is known
-- (`Answers`). Values accepted earlier are the first of those accepted later.
use mathlib.Core.Path.{◌≡◌, refl, sym, ap, ◌∙◌, subst}
use mathlib.Core.Logic.{⊎_elim}
use mathlib.Core.Bool.{Bool, false}
use mathlib.Core.List.{List, [], ◌∷◌, ◌++◌, append_assoc}
use Prim.Native.Nat.{ℕ, suc, ◌+◌, ◌-◌, ◌%◌, ◌≤◌}
use native.Mathlib.Nat.{le_trans}
use native.Mathlib.Omega.{arith}
use lib.ListN.{length, take, drop, length-append, length-drop, get_or-append}
use lib.Dec.{eqb-suc-zero}
use lib.Seq.{take-append-le, drop-append-le}
use borrow.Author.Tests.{le-leb, lt-leb, le-ltb, ne_eqb}
use Rattle.bit_rule.specs.Search.{matching_ids}
use Rattle.bit_rule.proofs.Width.{le_or_lt}
use Rattle.promises.specs.Reply.{values, answer, finds_ids}
use Rattle.promises.specs.Column.{stretch}
use Rattle.promises.specs.Defined.{Held, held_by, store_by}
use Rattle.promises.specs.Histories.{Call, add, flush, count, get, range, search, outcome_of, reply_of, left_by, begun, after, taken, accepted, closed_by, WordsAdded}
use Rattle.promises.specs.Paper.{get_reply, range_answer, search_answer, add_reply, paper_answer}
use Rattle.promises.specs.Promises.{Counted, Read, WhatWasAddedIsWhatIsRead, Found, NobodyIsMissing, RoomChangesNothing, Balanced, TheBooksBalance, EveryAnswerIsThePapers, AnOpenStoreAccepts}
use Rattle.promises.proofs.Honest.{Fits, same_bytes, same_entries, not_damaged}
use Rattle.promises.proofs.Answers.{count_answers, get_answers, range_answers, search_answers}
use Rattle.promises.proofs.Histories.{next, words_rest, lived, made_room, begun_is, fresh_fits}
use Rattle.promises.proofs.Finding.{stretch_exactly, listed_ascending}
use Rattle.promises.proofs.Room.{same_until_room, SameUntilRoom}

-- ---- a run and another on top

pub after_append : (earlier later : List Call) (h : Held) → after (earlier ++ later) h ≡ after later (after earlier h)
unfolding after
after_append [] later h = refl
after_append (c ∷ cs) later h = after_append cs later (left_by c h)

pub accepted_append : (earlier later : List Call) (h : Held) → accepted (earlier ++ later) h ≡ accepted earlier h ++ accepted later (after earlier h)
unfolding accepted after
accepted_append [] later h = refl
accepted_append (c ∷ cs) later h =
    let first = taken c (reply_of c h) in
    ap (λ l. first ++ l) (accepted_append cs later (left_by c h))
    ∙ sym (append_assoc first (accepted cs (left_by c h)) (accepted later (after cs (left_by c h))))

-- a stretch of the first values
stretch_append : (vs us : List ℕ) (start n : ℕ) → start + n ≤ length vs → stretch start n (vs ++ us) ≡ stretch start n vs
stretch_append vs us start n inside =
    ap (take n) (drop-append-le start vs us (omega arith)) ∙ take-append-le n (drop start vs) us (omega (arith, length-drop start vs))

-- ---- 1. What was added is what is read

-- of the store that some values define
counted_of : (vs : List ℕ) (closed : Bool) (bytes entries : List ℕ) → Fits vs closed bytes entries → Counted vs (held_by vs closed bytes entries)
unfolding get_reply
counted_of vs closed bytes entries fits =
    record {
      number = ap (λ o. o.answer.reply) (count_answers vs closed bytes entries fits);
      past = λ i beyond. ap (λ o. o.answer.reply) (get_answers vs closed bytes entries fits i) ∙ simp (le-leb (length vs) i beyond);
    }

-- of the store that these values and others behind them define
read_of : (vs us : List ℕ) (closed : Bool) (bytes entries : List ℕ) → Fits (vs ++ us) closed bytes entries → Read vs (held_by (vs ++ us) closed bytes entries)
unfolding get_reply range_answer
read_of vs us closed bytes entries fits =
    let all = vs ++ us in
    let long : length all ≡ length vs + length us = length-append vs us in
    record {
      one = λ i below.
          ap (λ o. o.answer.reply) (get_answers all closed bytes entries fits i)
          ∙ simp (lt-leb (length all) i (omega arith)) (ap (λ v. values (v ∷ [])) (get_or-append vs us 0 i below));
      stretches = λ start out inside. ap (λ o. o.answer) (range_answers all closed bytes entries fits start out) ∙ by_output start out inside;
    }
  where
    by_output : (start : ℕ) (out : List ℕ) → start + length out ≤ length vs
        → range_answer (vs ++ us) start out ≡ answer (values []) (stretch start (length out) vs)
    by_output start [] inside = refl
    by_output start (x ∷ out) inside =
        simp (eqb-suc-zero (length out), le-ltb (length (vs ++ us)) (start + suc (length out)) (omega (arith, length-append vs us)))
        (ap (answer (values [])) (stretch_append vs us start (suc (length out)) inside))

pub what_was_added_is_what_is_read : WhatWasAddedIsWhatIsRead
what_was_added_is_what_is_read bytes entries earlier later history =
    let h₀ = begun bytes entries in
    let life = lived bytes entries (earlier ++ later) history in
    let closed = closed_by (earlier ++ later) h₀ in
    let vs = accepted earlier h₀ in
    let us = accepted later (after earlier h₀) in
    let all : accepted (earlier ++ later) h₀ ≡ vs ++ us = accepted_append earlier later h₀ in
    let left : after (earlier ++ later) h₀ ≡ held_by (vs ++ us) closed bytes entries = life.left_is ∙ ap (λ l. held_by l closed bytes entries) all in (
      subst (Counted (accepted (earlier ++ later) h₀)) (sym life.left_is) (counted_of (accepted (earlier ++ later) h₀) closed bytes entries life.fits),
      subst (Read vs) (sym left) (read_of vs us closed bytes entries (subst (λ l. Fits l closed bytes entries) all life.fits)),
    )

-- ---- 2. Nobody is missing

found_of : (vs us : List ℕ) (closed : Bool) (bytes entries : List ℕ) → Fits (vs ++ us) closed bytes entries
    → (lo hi start end : ℕ) (positions : List ℕ) → end ≤ length vs → end - start ≤ length positions
    → Found vs lo hi start end positions (held_by (vs ++ us) closed bytes entries)
unfolding search_answer matching_ids
found_of vs us closed bytes entries fits lo hi start end positions inside room =
    let all = vs ++ us in
    record {
      ids = matching_ids lo hi start (stretch start (end - start) vs);
      exactly = stretch_exactly lo hi vs start end inside;
      in_order = listed_ascending lo hi start (stretch start (end - start) vs);
      answered =
          ap (λ o. o.answer) (search_answers all closed bytes entries fits lo hi start end positions)
          ∙ ⊎_elim
          (λ none.
          let no-ids : 0 ≡ end - start = omega arith in
          simp (le-leb end start none) (ap (λ m. finds_ids (matching_ids lo hi start (stretch start m vs)) positions) no-ids))
          (λ some.
          simp (lt-leb end start some, le-ltb (length all) end (omega (arith, length-append vs us)), le-ltb (length positions) (end - start) room)
          (ap (λ l. finds_ids (matching_ids lo hi start l) positions) (stretch_append vs us start (end - start) (omega arith))))
          (le_or_lt end start);
    }

pub nobody_is_missing : NobodyIsMissing
nobody_is_missing bytes entries earlier later history lo hi start end positions inside room =
    let h₀ = begun bytes entries in
    let life = lived bytes entries (earlier ++ later) history in
    let closed = closed_by (earlier ++ later) h₀ in
    let vs = accepted earlier h₀ in
    let us = accepted later (after earlier h₀) in
    let all : accepted (earlier ++ later) h₀ ≡ vs ++ us = accepted_append earlier later h₀ in
    let left : after (earlier ++ later) h₀ ≡ held_by (vs ++ us) closed bytes entries = life.left_is ∙ ap (λ l. held_by l closed bytes entries) all in
    subst (Found vs lo hi start end positions) (sym left)
    (found_of vs us closed bytes entries (subst (λ l. Fits l closed bytes entries) all life.fits) lo hi start end positions inside room)

-- ---- 3. Room changes nothing

pub room_changes_nothing : RoomChangesNothing
room_changes_nothing bytes entries longerBytes longerEntries calls history bytes-more entries-more =
    let room = made_room bytes history.made in
    let longer-room : 8 ≤ length longerBytes = le_trans room bytes-more in
    let same : SameUntilRoom calls (begun bytes entries) (begun longerBytes longerEntries) =
    subst (SameUntilRoom calls (begun bytes entries)) (sym (begun_is longerBytes longerEntries longer-room))
    (subst (λ h. SameUntilRoom calls h (held_by [] false longerBytes longerEntries)) (sym (begun_is bytes entries room))
    (same_until_room bytes entries longerBytes longerEntries bytes-more entries-more calls [] false history.words (fresh_fits bytes entries room) (fresh_fits longerBytes longerEntries longer-room))) in
    (same.same_answers, same.same_held)

-- ---- 4. The books balance

balanced_of : (vs : List ℕ) (closed : Bool) (bytes entries : List ℕ) → Fits vs closed bytes entries → Balanced vs closed bytes entries (held_by vs closed bytes entries)
unfolding held_by store_by
balanced_of vs closed bytes entries fits =
    record {
      used = refl;
      store = refl;
      bytes_are = refl;
      entries_are = refl;
      byte_area = same_bytes vs closed bytes entries fits;
      entry_area = same_entries vs closed bytes entries fits;
      not_damaged = not_damaged vs closed bytes entries fits;
    }

pub the_books_balance : TheBooksBalance
the_books_balance bytes entries calls history =
    let life = lived bytes entries calls history in
    let h₀ = begun bytes entries in
    subst (Balanced (accepted calls h₀) (closed_by calls h₀) bytes entries) (sym life.left_is) (balanced_of (accepted calls h₀) (closed_by calls h₀) bytes entries life.fits)

-- ---- 6. No history but the honest one

words_first : (calls : List Call) (c : Call) → WordsAdded (calls ++ c ∷ []) → WordsAdded calls
words_first [] c words = tt
words_first (add v ∷ cs) c words = (words.0, words_first cs c words.1)
words_first (flush ∷ cs) c words = words_first cs c words
words_first (count ∷ cs) c words = words_first cs c words
words_first (get i ∷ cs) c words = words_first cs c words
words_first (range start out ∷ cs) c words = words_first cs c words
words_first (search lo hi start end positions ∷ cs) c words = words_first cs c words

words_last : (calls : List Call) (c : Call) → WordsAdded (calls ++ c ∷ []) → WordsAdded (c ∷ [])
words_last [] c words = words
words_last (d ∷ cs) c words = words_last cs c (words_rest d (cs ++ c ∷ []) words)

pub every_answer_is_the_papers : EveryAnswerIsThePapers
every_answer_is_the_papers bytes entries calls c history =
    let h₀ = begun bytes entries in
    let life = lived bytes entries calls (record { made = history.made; words = words_first calls c history.words }) in
    let step = next c [] (accepted calls h₀) (closed_by calls h₀) bytes entries (words_last calls c history.words) life.fits in
    ap (λ h. (outcome_of c h).answer) life.left_is ∙ ap (λ o. o.answer) step.comes_to

pub an_open_store_accepts : AnOpenStoreAccepts
unfolding paper_answer add_reply
an_open_store_accepts bytes entries calls v history open-still few =
    let vs = accepted calls (begun bytes entries) in
    ap (λ a. a.reply) (every_answer_is_the_papers bytes entries calls (add v) history)
    ∙ simp (open-still, ne_eqb (length vs % 128) 127 (λ e. omega arith))
