-- The program's words: `help`, also as `--help` and `-h`; `--version`; `show TERMS`; `get TERMS ID`; `list TERMS LO HI`;
-- `list TERMS LO HI FROM TO`. Anything else is wrong, and the first fault is told.
use Rattle.std.specs.Prelude.{ℕ, if◌then◌else◌, List, [], ◌∷◌, ◌==◌, nat_lt, nat_le, codes, bytes_eq, Option, Some, None, is_some, unwrap_or, Result, Ok, Err}
use Rattle.std.specs.Result.{result_map_both}
use Rattle.refusal.specs.First.{check, first_that_holds}
use Rattle.decimal.specs.Digits.{read_of}
use Rattle.desk.specs.declared.words.Word.{Word}
use Rattle.desk.specs.declared.words.Word.TheVariants.{Verb as theVerb, Terms, Id, Lo, Hi, From, To}
use Rattle.desk.specs.declared.words.Fault.{Fault}
use Rattle.desk.specs.declared.words.Fault.TheVariants.{TooLong, Missing, NoVerb, TooMany, NotANumber, LoAboveHi, FromNotBelowTo}
use Rattle.desk.specs.declared.words.Request.{Request}
use Rattle.desk.specs.declared.words.Request.TheVariants.{Help, Version, Show, Get, List as Listing, ListPart}
use Rattle.desk.specs.declared.words.Verb.{Verb}
use Rattle.desk.specs.declared.words.Verb.TheVariants.{Help as helpVerb, Version as versionVerb, Show as showVerb, Get as getVerb, List as listVerb}

-- The verbs.
unfoldable pub verb_of : List ℕ → Option Verb
verb_of word =
    first_that_holds
    (check (bytes_eq word (codes "help")) (Some helpVerb)
    ∷ check (bytes_eq word (codes "--help")) (Some helpVerb)
    ∷ check (bytes_eq word (codes "-h")) (Some helpVerb)
    ∷ check (bytes_eq word (codes "--version")) (Some versionVerb)
    ∷ check (bytes_eq word (codes "show")) (Some showVerb)
    ∷ check (bytes_eq word (codes "get")) (Some getVerb)
    ∷ check (bytes_eq word (codes "list")) (Some listVerb)
    ∷ [])
    None

-- What comes after a step, where nothing is wrong with it.
infixl 10 ◌>>=◌
abbrev pub ◌>>=◌ : {A B : Type 0} → Result A Fault → (A → Result B Fault) → Result B Fault
Ok x >>= next = next x
Err fault >>= next = Err fault

-- The number that a word says, by the word's name.
abbrev pub number_of : Word → List ℕ → Result ℕ Fault
number_of word text = result_map_both (λ n. n) (λ why. NotANumber word) (read_of text)

-- ---- what each verb asks for, or the first thing that is wrong

unfoldable pub alone_of : ℕ → Request → Result Request Fault
alone_of count request = first_that_holds (check (nat_lt 1 count) (Err (TooMany 2)) ∷ []) (Ok request)

unfoldable pub show_of : ℕ → Result Request Fault
show_of count = first_that_holds (check (nat_lt count 2) (Err (Missing Terms)) ∷ check (nat_lt 2 count) (Err (TooMany 3)) ∷ []) (Ok Show)

unfoldable pub get_of : ℕ → List ℕ → Result Request Fault
get_of count id =
    first_that_holds
    (check (nat_lt count 2) (Err (Missing Terms)) ∷ check (nat_lt count 3) (Err (Missing Id)) ∷ check (nat_lt 3 count) (Err (TooMany 4)) ∷ [])
    (do
      number ← number_of Id id
      Ok (Get number))

-- Both ends belong to the interval: LO may be HI, and not above it.
unfoldable pub interval_of : List ℕ → List ℕ → Result (ℕ × ℕ) Fault
interval_of lo hi = do
  low ← number_of Lo lo
  high ← number_of Hi hi
  first_that_holds (check (nat_lt high low) (Err LoAboveHi) ∷ []) (Ok (low, high))

-- TO does not belong to the range: FROM is below it.
unfoldable pub range_of : List ℕ → List ℕ → Result (ℕ × ℕ) Fault
range_of from to = do
  first ← number_of From from
  end ← number_of To to
  first_that_holds (check (nat_le end first) (Err FromNotBelowTo) ∷ []) (Ok (first, end))

-- What is listed of an interval where a range is named too.
abbrev pub part_of : ℕ × ℕ → Result (ℕ × ℕ) Fault → Result Request Fault
part_of ends range = do
  ids ← range
  Ok (ListPart ends.0 ends.1 ids.0 ids.1)

-- Four words, or six.
unfoldable pub list_of : ℕ → List ℕ → List ℕ → List ℕ → List ℕ → Result Request Fault
list_of count lo hi from to =
    first_that_holds
    (check (nat_lt count 2) (Err (Missing Terms))
    ∷ check (nat_lt count 3) (Err (Missing Lo))
    ∷ check (nat_lt count 4) (Err (Missing Hi))
    ∷ check (count == 5) (Err (Missing To))
    ∷ check (nat_lt 6 count) (Err (TooMany 7))
    ∷ [])
    (do
      ends ← interval_of lo hi
      if count == 6 then part_of ends (range_of from to) else Ok (Listing ends.0 ends.1))

-- ---- what is asked for

abbrev pub request_by : Option Verb → ℕ → List ℕ → List ℕ → List ℕ → List ℕ → Result Request Fault
request_by (Some helpVerb) count third fourth fifth sixth = alone_of count Help
request_by (Some versionVerb) count third fourth fifth sixth = alone_of count Version
request_by (Some showVerb) count third fourth fifth sixth = show_of count
request_by (Some getVerb) count third fourth fifth sixth = get_of count third
request_by (Some listVerb) count third fourth fifth sixth = list_of count third fourth fifth sixth
request_by None count third fourth fifth sixth = Err NoVerb

unfoldable pub request_of : ℕ → Option ℕ → List ℕ → List ℕ → List ℕ → List ℕ → List ℕ → Result Request Fault
request_of count long word third fourth fifth sixth =
    first_that_holds
    (check (is_some long) (Err (TooLong (unwrap_or long 0))) ∷ check (count == 0) (Err (Missing theVerb)) ∷ [])
    (request_by (verb_of word) count third fourth fifth sixth)
