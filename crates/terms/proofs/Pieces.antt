-- However a text is cut, taking its pieces and ending is what the whole text leads to: pieces are taken as the joined text is, byte by byte;
-- a line that the bytes have come to is what its state says at its end; and so line by line.
use Rattle.std.proofs.Common.{◌≡◌, ℕ, ◌+◌, ◌%◌, ◌^◌, ◌<◌, ◌≤◌, Bool, true, false, cond, not, ◌&&◌, eqb, Option, Some, None, is_some, unwrap_or, ok_or, Result, Ok, Err, List, [], ◌∷◌, ◌++◌, length, sym, refl, ap, ◌∙◌, ap₂, append_assoc, append-nil, mod-eq_of_lt, arith, length-append, ne_eqb}
use Rattle.refusal.specs.declared.Refusal.{Refusal}
use Rattle.blocked_bitpacker.specs.Calls.{new_of}
use Rattle.decimal.specs.declared.NumeralError.{NumeralError}
use Rattle.decimal.specs.declared.NumeralError.TheVariants.{Empty, NotADigit, TooLarge}
use Rattle.decimal.specs.declared.line.Line.{Line}
use Rattle.decimal.specs.Digits.{is_digit, digit_of}
use Rattle.decimal.specs.Line.{new_line, wrong_line, cr_line, digit_line, byte_of, bytes_of as lineBytesOf, ended_of}
use Rattle.decimal.proofs.Bytewise.{bytes_append as line-append, an_ended_line_is_read}
use Rattle.promises.specs.Defined.{Held, held}
use Rattle.promises.specs.Histories.{begun}
use Rattle.terms.specs.declared.Trouble.{Trouble}
use Rattle.terms.specs.declared.Trouble.TheVariants.{NotANumber, Refused, Cut, NoLine}
use Rattle.terms.specs.declared.Loading.{Loading}
use Rattle.terms.specs.Loading.{trouble_of, loading_of, stopped_by, answered_by, Taken, taken, said_of, next_of, bytes_of, begin_of, Ended, ended, loaded_of, ended_with, nothing_read, end_of}
use Rattle.terms.specs.Text.{lines_of, rest_of, stop, without_end, after_answer, after_line, load_lines, on_new, load_of, joined, pieces_of, start_of, ending_of, ThePiecesMakeTheText}
use Rattle.terms.proofs.Settled.{ends_after, ends_as_stopped}
use Rattle.terms.proofs.Laws.{past_line}
use Rattle.terms.proofs.Adding.{addLineIn, refused_keeps}
use Rattle.terms.proofs.Lines.{NoFeed, no_feed_more, first_line, no_line, all_rest, rest_behind}

-- ---- pieces are as good as the text

bytes_append : (ld : Loading) (xs ys bytes entries : List ℕ)
    → bytes_of ld (xs ++ ys) bytes entries ≡ (let t = bytes_of ld xs bytes entries in bytes_of t.loading ys t.bytes t.entries)
unfolding bytes_of
bytes_append ld [] ys bytes entries = refl
bytes_append ld (x ∷ xs) ys bytes entries =
    let next = next_of ld x bytes entries in
    bytes_append next.loading xs ys next.bytes next.entries

pieces_joined : (pieces : List (List ℕ)) (t : Taken) → pieces_of t pieces ≡ bytes_of t.loading (joined pieces) t.bytes t.entries
unfolding bytes_of pieces_of joined
pieces_joined [] t = refl
pieces_joined (piece ∷ pieces) t =
    pieces_joined pieces (bytes_of t.loading piece t.bytes t.entries)
    ∙ sym (bytes_append t.loading piece (joined pieces) t.bytes t.entries)

-- ---- what a line says, and then what follows

-- A loading that goes on, with the areas.
abbrev going : Held → ℕ → Line → Taken
going h lines line = taken (loading_of h.store lines line None) h.bytes h.entries

abbrev said_by : Taken → Result ℕ NumeralError → Taken
said_by t q = said_of t.loading q t.bytes t.entries

-- Of anything that ends it: where that leaves what was stopped as it is, and goes on from a new line as `next` does, it does so from a line's
-- end as `after_line` does.
module _ (h : Held) (lines : ℕ) (line : Line) (short : lines + 1 < 2 ^ 64) (finish : Taken → Ended) (next : ℕ → Held → Ended)
    (stopped : (t : Taken) → is_some t.loading.trouble ≡ true → finish t ≡ ended_with t)
    (goes_on : (k : Held) → finish (going k (lines + 1) new_line) ≡ next (lines + 1) k) where
  abbrev here : Loading
  here = (going h lines line).loading

  answered : (v : ℕ) (done : Result (Unit {0}) Refusal) → (addLineIn h v).stored.done ≡ done
      → finish (taken (answered_by done (addLineIn h v).stored.store here) (addLineIn h v).bytes (addLineIn h v).entries)
      ≡ after_answer (addLineIn h v) done lines h next
  answered v (Ok _) is =
      let k = held (addLineIn h v).stored.store (addLineIn h v).bytes (addLineIn h v).entries in
      ap (λ n. finish (going k n new_line)) (mod-eq_of_lt short) ∙ goes_on k
  answered v (Err why) is =
      let kept = refused_keeps h v why is in
      stopped (taken (stopped_by (Refused why) here) (addLineIn h v).bytes (addLineIn h v).entries) refl
      ∙ ap₂ (λ bytes entries. ended (loaded_of h.store lines (Some (Refused why))) bytes entries) kept.0 kept.1

  stops : (why : NumeralError) → finish (taken (stopped_by (NotANumber why) here) h.bytes h.entries) ≡ stop (Some (NotANumber why)) lines h
  stops why = stopped (taken (stopped_by (NotANumber why) here) h.bytes h.entries) refl

  said : (q : Result ℕ NumeralError) → finish (said_by (going h lines line) q) ≡ after_line q lines h next
  unfolding said_of
  said (Ok v) = answered v (addLineIn h v).stored.done refl
  said (Err Empty) = stops Empty
  said (Err (NotADigit place b)) = stops (NotADigit place b)
  said (Err TooLarge) = stops TooLarge

-- ---- at the end of the text

-- of a byte something is known, and of all bytes after it
something_known : (l : Line) (b : ℕ) → l.digits + 1 < 2 ^ 64 → (nothing_read (byte_of l b) ≡ false) × ((byte_of l b).digits ≤ l.digits + 1)
unfolding byte_of
something_known l b few = by_tests (is_some l.wrong) l.after_cr (eqb b 13) (is_digit b) refl
  where
    by_tests : (wrong cr return digit : Bool) → is_some l.wrong ≡ wrong
        → let m =
        cond wrong l (cond cr (wrong_line l 13) (cond return (cr_line l) (cond (not digit) (wrong_line l b) (digit_line l (digit_of b))))) in
        (nothing_read m ≡ false) × (m.digits ≤ l.digits + 1)
    by_tests true cr return digit is = (ap (λ t. not t && not l.after_cr && eqb l.digits 0) is, omega arith)
    by_tests false true return digit is = (refl, omega arith)
    by_tests false false true digit is = (refl, omega arith)
    by_tests false false false false is = (refl, omega arith)
    by_tests false false false true is =
        let counted : (l.digits + 1) % 2 ^ 64 ≡ l.digits + 1 = mod-eq_of_lt few in
        (ne_eqb ((l.digits + 1) % 2 ^ 64) 0 (λ none. omega (arith, counted, none)), omega (arith, counted))

something_read : (l : Line) (b : ℕ) (bs : List ℕ) → l.digits + length (b ∷ bs) < 2 ^ 64 → nothing_read (lineBytesOf l (b ∷ bs)) ≡ false
unfolding lineBytesOf
something_read l b [] few = (something_known l b (omega arith)).0
something_read l b (c ∷ cs) few = something_read (byte_of l b) c cs (omega (arith, (something_known l b (omega arith)).1))

-- what a line without its end comes to
module _ (h : Held) (lines : ℕ) (line : Line) (read : nothing_read line ≡ false) where
  ends_without : ending_of (going h lines line) ≡ without_end (ended_of line) lines h
  unfolding end_of ended_of
  ends_without =
      ap (λ r. ended r h.bytes h.entries) (past_line _ _ _ false (nothing_read line) (eqb lines 0) refl read)
      ∙ by_fields (is_some line.wrong) (eqb line.digits 0) line.value
    where
      by_fields : (wrong none : Bool) (value : Option ℕ)
          → ended (cond wrong (stop (Some (NotANumber (NotADigit line.digits (unwrap_or line.wrong 0)))) lines h).loaded (stop (Some Cut) lines h).loaded) h.bytes h.entries
          ≡ without_end (cond wrong (Err (NotADigit line.digits (unwrap_or line.wrong 0))) (cond none (Err Empty) (ok_or value TooLarge))) lines h
      by_fields true none value = refl
      by_fields false true value = refl
      by_fields false false None = refl
      by_fields false false (Some n) = refl

ends_cut : (line : List ℕ) (lines : ℕ) (h : Held) → NoFeed line → lines + length line < 2 ^ 64
    → ending_of (going h lines (lineBytesOf new_line line)) ≡ load_lines (rest_of line) (lines_of line) lines h
unfolding end_of load_lines lines_of rest_of lineBytesOf
ends_cut [] lines h none few = by_count (eqb lines 0)
  where
    by_count : (no_line : Bool)
        → ended (cond no_line (stop (Some NoLine) lines h).loaded (stop None lines h).loaded) h.bytes h.entries
        ≡ stop (cond no_line (Some NoLine) None) lines h
    by_count true = refl
    by_count false = refl
ends_cut (b ∷ bs) lines h none few =
    ends_without h lines (lineBytesOf new_line (b ∷ bs)) (something_read new_line b bs (omega arith))
    ∙ ap (λ q. without_end q lines h) (an_ended_line_is_read (b ∷ bs) (omega arith))
    ∙ sym (ap₂ (λ rest ls. load_lines rest ls lines h) (all_rest (b ∷ bs) none) (no_line (b ∷ bs) none))

-- ---- byte by byte

-- From any line that goes on, the text that follows leads to what its lines do, of which the first began before.
abbrev ComesTo : List ℕ → Type 0
ComesTo text =
    (line : List ℕ) (lines : ℕ) (h : Held) → NoFeed line → lines + length line + length text < 2 ^ 64
    → ends_after text (going h lines (lineBytesOf new_line line)) ≡ load_lines (rest_of (line ++ text)) (lines_of (line ++ text)) lines h

module _ (b : ℕ) (bs : List ℕ) (rest : ComesTo bs) where
  abbrev nextAfter : Taken → Taken
  nextAfter t = next_of t.loading b t.bytes t.entries

  at_feed : eqb b 10 ≡ true → ComesTo (b ∷ bs)
  unfolding bytes_of next_of load_lines lineBytesOf
  at_feed feed line lines h none few =
      let state = lineBytesOf new_line line in
      let next = load_lines (rest_of bs) (lines_of bs) in
      let ends : nextAfter (going h lines state) ≡ said_by (going h lines state) (ended_of state) = simp feed in
      ap (ends_after bs) ends
      ∙ said h lines state (omega arith) (ends_after bs) next (λ t. ends_as_stopped t bs) (λ k. rest [] (lines + 1) k tt (omega arith)) (ended_of state)
      ∙ ap (λ q. after_line q lines h next) (an_ended_line_is_read line (omega arith))
      ∙ sym (ap₂ (λ left ls. load_lines left ls lines h) (rest_behind line b bs feed) (first_line line b bs none feed))

  at_byte : eqb b 10 ≡ false → ComesTo (b ∷ bs)
  unfolding bytes_of next_of lineBytesOf
  at_byte other line lines h none few =
      let more = line ++ b ∷ [] in
      let grows : nextAfter (going h lines (lineBytesOf new_line line)) ≡ going h lines (lineBytesOf new_line more) =
      simp (other, line-append new_line line (b ∷ [])) in
      ap (ends_after bs) grows
      ∙ rest more lines h (no_feed_more line b none other) (omega (arith, length-append line (b ∷ [])))
      ∙ ap (λ l. load_lines (rest_of l) (lines_of l) lines h) (append_assoc line (b ∷ []) bs)

comes_to : (text : List ℕ) → ComesTo text
unfolding bytes_of
comes_to [] line lines h none few = ends_cut line lines h none (omega arith) ∙ ap (λ l. load_lines (rest_of l) (lines_of l) lines h) (sym (append-nil line))
comes_to (b ∷ bs) line lines h none few = by_byte (eqb b 10) refl (comes_to bs)
  where
    by_byte : (feed : Bool) → eqb b 10 ≡ feed → ComesTo bs
        → ends_after (b ∷ bs) (going h lines (lineBytesOf new_line line)) ≡ load_lines (rest_of (line ++ b ∷ bs)) (lines_of (line ++ b ∷ bs)) lines h
    by_byte true feed rest = at_feed b bs rest feed line lines h none few
    by_byte false other rest = at_byte b bs rest other line lines h none few

-- ---- from a new store

from_start : (text bytes entries : List ℕ) → length text < 2 ^ 64 → ends_after text (start_of bytes entries) ≡ load_of text bytes entries
unfolding begin_of load_of lineBytesOf
from_start text bytes entries few = by_answer (new_of bytes).stored.done
  where
    fresh : Option Trouble → Taken
    fresh trouble = taken (loading_of (new_of bytes).stored.store 0 new_line trouble) (new_of bytes).bytes entries

    by_answer : (done : Result (Unit {0}) Refusal) → ends_after text (fresh (trouble_of done)) ≡ on_new done text (begun bytes entries)
    by_answer (Ok _) = comes_to text [] 0 (begun bytes entries) tt (omega arith)
    by_answer (Err why) = ends_as_stopped (fresh (Some (Refused why))) text refl

pub the_pieces_make_the_text : ThePiecesMakeTheText
the_pieces_make_the_text pieces bytes entries few =
    ap ending_of (pieces_joined pieces (start_of bytes entries)) ∙ from_start (joined pieces) bytes entries few
