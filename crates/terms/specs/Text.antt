-- What a text of numbers says, and that a loading comes to it, however the text is cut into pieces.
use Rattle.std.specs.Prelude.{◌≡◌, ℕ, ◌+◌, ◌-◌, ◌^◌, ◌<◌, ◌≤◌, Bool, true, false, cond, ◌&&◌, ◌||◌, List, [], ◌∷◌, ◌++◌, map, length, take, ◌==◌, slice_index, Option, Some, None, Result, Ok, Err}
use Rattle.refusal.specs.declared.Refusal.{Refusal}
use Rattle.blocked_bitpacker.specs.Calls.{Changed, new_of}
use Rattle.decimal.specs.declared.NumeralError.{NumeralError}
use Rattle.decimal.specs.declared.NumeralError.TheVariants.{Empty, NotADigit, TooLarge}
use Rattle.decimal.specs.Digits.{numeral, read_of}
use Rattle.decimal.specs.Line.{without_cr}
use Rattle.promises.specs.Defined.{Held, held}
use Rattle.promises.specs.Reply.{values}
use Rattle.promises.specs.Histories.{Call, add, count, get, reply_of, begun, after, accepted, History}
use Rattle.promises.specs.Promises.{Found}
use Rattle.terms.specs.declared.Trouble.{Trouble}
use Rattle.terms.specs.declared.Trouble.TheVariants.{NotANumber, Refused, Cut, NoLine}
use Rattle.terms.specs.Loading.{settled_of, add_line_of, Taken, taken, begin_of, bytes_of, Ended, ended, loaded_of, end_of}

-- ---- its lines

abbrev pub starts_with_feed : List ℕ → Bool
starts_with_feed [] = false
starts_with_feed (b ∷ bs) = b == 10

-- A byte in front of the first line of what follows; where no line end follows, it belongs to no line.
abbrev pub in_first : ℕ → List (List ℕ) → List (List ℕ)
in_first b [] = []
in_first b (line ∷ lines) = (b ∷ line) ∷ lines

-- A line feed ends a line, and a carriage return right before it belongs to that end. What follows the last line feed is no line.
unfoldable pub lines_of : List ℕ → List (List ℕ)
lines_of [] = []
lines_of (b ∷ bs) = cond (b == 10) ([] ∷ lines_of bs) (cond (b == 13 && starts_with_feed bs) (lines_of bs) (in_first b (lines_of bs)))

unfoldable pub has_feed : List ℕ → Bool
has_feed [] = false
has_feed (b ∷ bs) = b == 10 || has_feed bs

-- What follows the last line feed.
unfoldable pub rest_of : List ℕ → List ℕ
rest_of [] = []
rest_of (b ∷ bs) = cond (has_feed (b ∷ bs)) (rest_of bs) (b ∷ bs)

-- The numbers of a text of which every line is a numeral.
abbrev pub numbers_of : List ℕ → List ℕ
numbers_of text = map numeral (lines_of text)

-- ---- what it leads to

abbrev pub stop : Option Trouble → ℕ → Held → Ended
stop trouble lines h = ended (loaded_of h.store lines trouble) h.bytes h.entries

-- The store's answer to the number of the line after `lines` others, and then the lines that follow.
abbrev pub after_answer : Changed → Result (Unit {0}) Refusal → ℕ → Held → (ℕ → Held → Ended) → Ended
after_answer c (Ok _) lines h next = next (lines + 1) (held c.stored.store c.bytes c.entries)
after_answer c (Err why) lines h next = stop (Some (Refused why)) lines h

abbrev pub after_number : Changed → ℕ → Held → (ℕ → Held → Ended) → Ended
after_number c lines h next = after_answer c c.stored.done lines h next

-- What a line says, and then the lines that follow.
abbrev pub after_line : Result ℕ NumeralError → ℕ → Held → (ℕ → Held → Ended) → Ended
after_line (Ok v) lines h next = after_number (add_line_of h.store v h.bytes h.entries) lines h next
after_line (Err why) lines h next = stop (Some (NotANumber why)) lines h

-- What the bytes behind the last line end come to: a byte that may not stand there is told, and else that their line has no end.
abbrev pub without_end : Result ℕ NumeralError → ℕ → Held → Ended
without_end (Ok v) lines h = stop (Some Cut) lines h
without_end (Err Empty) lines h = stop (Some Cut) lines h
without_end (Err (NotADigit place b)) lines h = stop (Some (NotANumber (NotADigit place b))) lines h
without_end (Err TooLarge) lines h = stop (Some Cut) lines h

-- After the last line: nothing may follow it, and there was at least one.
abbrev pub after_last : List ℕ → ℕ → Held → Ended
after_last [] lines h = stop (cond (lines == 0) (Some NoLine) None) lines h
after_last (b ∷ bs) lines h = without_end (read_of (without_cr (b ∷ bs))) lines h

-- The lines' numbers are added one after the other. The first line that is no number, or whose number is refused, stops it.
unfoldable pub load_lines : List ℕ → List (List ℕ) → ℕ → Held → Ended
load_lines rest [] lines h = after_last rest lines h
load_lines rest (l ∷ ls) lines h = after_line (read_of l) lines h (load_lines rest ls)

-- The same from a new store, which cannot be made on fewer than eight bytes.
abbrev pub on_new : Result (Unit {0}) Refusal → List ℕ → Held → Ended
on_new (Ok _) text h = load_lines (rest_of text) (lines_of text) 0 h
on_new (Err why) text h = stop (Some (Refused why)) 0 h

unfoldable pub load_of : List ℕ → List ℕ → List ℕ → Ended
load_of text bytes entries = on_new (new_of bytes).stored.done text (begun bytes entries)

-- ---- that a loading comes to it

unfoldable pub joined : List (List ℕ) → List ℕ
joined [] = []
joined (piece ∷ pieces) = piece ++ joined pieces

-- Pieces taken one after the other.
unfoldable pub pieces_of : Taken → List (List ℕ) → Taken
pieces_of t [] = t
pieces_of t (piece ∷ pieces) = pieces_of (bytes_of t.loading piece t.bytes t.entries) pieces

abbrev pub start_of : List ℕ → List ℕ → Taken
start_of bytes entries = taken (begin_of bytes).loading (begin_of bytes).bytes entries

abbrev pub ending_of : Taken → Ended
ending_of t = ended (end_of t.loading) t.bytes t.entries

-- However a text of fewer than 2^64 bytes is cut, taking its pieces and ending is what the whole text leads to.
abbrev pub ThePiecesMakeTheText : Type 0
ThePiecesMakeTheText =
    (pieces : List (List ℕ)) (bytes entries : List ℕ) → length (joined pieces) < 2 ^ 64
    → ending_of (pieces_of (start_of bytes entries) pieces) ≡ load_of (joined pieces) bytes entries

-- Once a loading is settled, what follows may as well not be read.
abbrev pub NothingChangesWhatIsSettled : Type 0
NothingChangesWhatIsSettled =
    (t : Taken) (text : List ℕ) → settled_of t.loading ≡ true → ending_of (bytes_of t.loading text t.bytes t.entries) ≡ ending_of t

-- ---- that the store then holds the text's numbers

abbrev pub adds : List ℕ → List Call
adds vs = map add vs

-- Of what a text led to: the store and the areas are those after adding the numbers of the first lines, each of which was accepted; and
-- where nothing stopped it those are all numbers of the text, which has at least one and ends with a line end.
pub record Holds (text bytes entries : List ℕ) (r : Ended) : Type 0 where
  pub numbers : List ℕ
  pub first : numbers ≡ take r.loaded.lines (numbers_of text)
  pub one_a_line : length numbers ≡ r.loaded.lines
  pub history : History bytes (adds numbers)
  pub added : held r.loaded.store r.bytes r.entries ≡ after (adds numbers) (begun bytes entries)
  pub all_accepted : accepted (adds numbers) (begun bytes entries) ≡ numbers
  pub whole : r.loaded.trouble ≡ None → numbers ≡ numbers_of text
  pub ended_line : r.loaded.trouble ≡ None → rest_of text ≡ []
  pub some : r.loaded.trouble ≡ None → 0 < length numbers

abbrev pub TheStoreHoldsTheNumbers : Type 0
TheStoreHoldsTheNumbers = (text bytes entries : List ℕ) → 8 ≤ length bytes → Holds text bytes entries (load_of text bytes entries)

-- Of a text that nothing stopped: the store's count, and how many lines were added, are the number of its lines.
abbrev pub TheCountIsTheLines : Type 0
TheCountIsTheLines =
    (text bytes entries : List ℕ) → 8 ≤ length bytes → (load_of text bytes entries).loaded.trouble ≡ None
    → let r = load_of text bytes entries in
    (reply_of count (held r.loaded.store r.bytes r.entries) ≡ values (length (lines_of text) ∷ []))
    × (r.loaded.lines ≡ length (lines_of text))

-- Of a text that nothing stopped: the value that is read at an index is the number of the line with that index, counted from 0.
abbrev pub WhatIsInTheTextIsRead : Type 0
WhatIsInTheTextIsRead =
    (text bytes entries : List ℕ) → 8 ≤ length bytes → (load_of text bytes entries).loaded.trouble ≡ None
    → (i : ℕ) → i < length (lines_of text)
    → let r = load_of text bytes entries in
    reply_of (get i) (held r.loaded.store r.bytes r.entries) ≡ values (slice_index (numbers_of text) i ∷ [])

-- Of a text that nothing stopped: a search of the store lists exactly the lines, counted from 0, whose number lies in the interval.
abbrev pub NobodyInTheTextIsMissing : Type 0
NobodyInTheTextIsMissing =
    (text bytes entries : List ℕ) → 8 ≤ length bytes → (load_of text bytes entries).loaded.trouble ≡ None
    → (lo hi start end : ℕ) (positions : List ℕ) → end ≤ length (numbers_of text) → end - start ≤ length positions
    → let r = load_of text bytes entries in
    Found (numbers_of text) lo hi start end positions (held r.loaded.store r.bytes r.entries)
