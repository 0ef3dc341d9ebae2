-- How a text is taken byte by byte: what each call of a loading answers, and what the two areas then hold.
use Rattle.std.specs.Prelude.{ℕ, ◌+◌, ◌%◌, ◌^◌, Bool, not, ◌&&◌, ◌||◌, List, [], ◌∷◌, length, ◌==◌, Option, Some, None, is_some, unwrap_or, Result, Ok, Err}
use Rattle.refusal.specs.declared.Refusal.{Refusal}
use Rattle.refusal.specs.First.{check, first_that_holds}
use Rattle.refusal.specs.declared.Refusal.TheVariants.{EntriesFull, Damaged}
use Rattle.blocked_bitpacker.specs.declared.BlockedBitpacker.{BlockedBitpacker}
use Rattle.blocked_bitpacker.specs.declared.Stored.{Stored}
use Rattle.blocked_bitpacker.specs.Store.{damaged_store}
use Rattle.blocked_bitpacker.specs.Calls.{Changed, refused_call, entries_full, new_of, add_of}
use Rattle.decimal.specs.declared.NumeralError.{NumeralError}
use Rattle.decimal.specs.declared.NumeralError.TheVariants.{NotADigit}
use Rattle.decimal.specs.declared.line.Line.{Line}
use Rattle.decimal.specs.Line.{new_line, byte_of, ended_of}
use Rattle.terms.specs.declared.Trouble.{Trouble}
use Rattle.terms.specs.declared.Trouble.TheVariants.{NotANumber, Refused, Cut, NoLine}
use Rattle.terms.specs.declared.Loading.{Loading}
use Rattle.terms.specs.declared.Loaded.{Loaded}

-- ---- one number

-- "EntriesFull: 2*(blocks+1) > entry words" is asked of every number of a text, and not only of the 128th of a block: a text is refused by
-- its first number that could never be sealed. So the limit is 128 numbers to two entry words.
unfoldable pub add_line_of : BlockedBitpacker → ℕ → List ℕ → List ℕ → Changed
add_line_of s v bytes entries =
    first_that_holds
    (check (damaged_store s (length bytes) (length entries)) (refused_call Damaged s bytes entries)
    ∷ check (entries_full s entries) (refused_call EntriesFull s bytes entries)
    ∷ [])
    (add_of s v bytes entries)

-- ---- a loading

abbrev pub trouble_of : Result (Unit {0}) Refusal → Option Trouble
trouble_of (Ok _) = None
trouble_of (Err why) = Some (Refused why)

abbrev pub loading_of : BlockedBitpacker → ℕ → Line → Option Trouble → Loading
loading_of s lines line trouble = record { store = s; lines = lines; line = line; trouble = trouble }

abbrev pub stopped_by : Trouble → Loading → Loading
stopped_by trouble ld = loading_of ld.store ld.lines ld.line (Some trouble)

-- What the store answered to a line's number.
abbrev pub answered_by : Result (Unit {0}) Refusal → BlockedBitpacker → Loading → Loading
answered_by (Ok _) s ld = loading_of s ((ld.lines + 1) % 2 ^ 64) new_line None
answered_by (Err why) s ld = stopped_by (Refused why) ld

abbrev pub added_by : Stored → Loading → Loading
added_by stored ld = answered_by stored.done stored.store ld

-- The loading with the two areas.
pub record Taken : Type 0 where
  pub loading : Loading
  pub bytes : List ℕ
  pub entries : List ℕ

abbrev pub taken : Loading → List ℕ → List ℕ → Taken
taken ld bytes entries = record { loading = ld; bytes = bytes; entries = entries }

abbrev pub added_to : Loading → Changed → Taken
added_to ld c = taken (added_by c.stored ld) c.bytes c.entries

-- A line ends, and says this.
unfoldable pub said_of : Loading → Result ℕ NumeralError → List ℕ → List ℕ → Taken
said_of ld (Ok v) bytes entries = added_to ld (add_line_of ld.store v bytes entries)
said_of ld (Err why) bytes entries = taken (stopped_by (NotANumber why) ld) bytes entries

-- One byte more. A line feed ends a line.
unfoldable pub next_of : Loading → ℕ → List ℕ → List ℕ → Taken
next_of ld b bytes entries =
    first_that_holds
    (check (is_some ld.trouble) (taken ld bytes entries) ∷ check (b == 10) (said_of ld (ended_of ld.line) bytes entries) ∷ [])
    (taken (loading_of ld.store ld.lines (byte_of ld.line b) ld.trouble) bytes entries)

unfoldable pub bytes_of : Loading → List ℕ → List ℕ → List ℕ → Taken
bytes_of ld [] bytes entries = taken ld bytes entries
bytes_of ld (b ∷ bs) bytes entries =
    let next = next_of ld b bytes entries in
    bytes_of next.loading bs next.bytes next.entries

-- Nothing that follows changes what the text leads to.
abbrev pub settled_of : Loading → Bool
settled_of ld = is_some ld.line.wrong || is_some ld.trouble

-- ---- its two ends

pub record Begun : Type 0 where
  pub loading : Loading
  pub bytes : List ℕ

abbrev pub begun : Loading → List ℕ → Begun
begun ld bytes = record { loading = ld; bytes = bytes }

unfoldable pub begin_of : List ℕ → Begun
begin_of bytes = begun (loading_of (new_of bytes).stored.store 0 new_line (trouble_of (new_of bytes).stored.done)) (new_of bytes).bytes

pub record Ended : Type 0 where
  pub loaded : Loaded
  pub bytes : List ℕ
  pub entries : List ℕ

abbrev pub loaded_of : BlockedBitpacker → ℕ → Option Trouble → Loaded
loaded_of s lines trouble = record { store = s; lines = lines; trouble = trouble }

abbrev pub ended : Loaded → List ℕ → List ℕ → Ended
ended r bytes entries = record { loaded = r; bytes = bytes; entries = entries }

-- What is known of it where it stands.
abbrev pub loaded_by : Loading → Loaded
loaded_by ld = loaded_of ld.store ld.lines ld.trouble

abbrev pub ended_with : Taken → Ended
ended_with t = ended (loaded_by t.loading) t.bytes t.entries

abbrev pub nothing_read : Line → Bool
nothing_read l = not (is_some l.wrong) && not l.after_cr && l.digits == 0

-- The text ends. What follows its last line feed stops it: a byte that may not stand there, or else that the line has no end. So does a text
-- of no line.
unfoldable pub end_of : Loading → Loaded
end_of ld =
    first_that_holds
    (check (is_some ld.trouble) (loaded_by ld)
    ∷ check (nothing_read ld.line && ld.lines == 0) (loaded_by (stopped_by NoLine ld))
    ∷ check (nothing_read ld.line) (loaded_by ld)
    ∷ check (is_some ld.line.wrong) (loaded_by (stopped_by (NotANumber (NotADigit ld.line.digits (unwrap_or ld.line.wrong 0))) ld))
    ∷ [])
    (loaded_by (stopped_by Cut ld))
