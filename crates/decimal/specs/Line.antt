-- A line read byte by byte. What is known of it after some bytes is four fields; and at its end they say what `read_of` says of the whole line.
use Rattle.std.specs.Prelude.{◌≡◌, ℕ, ◌+◌, ◌*◌, ◌%◌, ◌^◌, ◌<◌, Bool, true, false, cond, not, List, [], ◌∷◌, length, ◌==◌, nat_le, Option, Some, None, is_some, unwrap_or, option_and_then, ok_or, Result, Err}
use Rattle.refusal.specs.First.{check, first_that_holds}
use Rattle.decimal.specs.declared.NumeralError.{NumeralError}
use Rattle.decimal.specs.declared.NumeralError.TheVariants.{Empty, NotADigit, TooLarge}
use Rattle.decimal.specs.declared.line.Line.{Line}
use Rattle.decimal.specs.Digits.{is_digit, digit_of, read_of}

abbrev pub line_of : ℕ → Option ℕ → Bool → Option ℕ → Line
line_of digits value cr wrong = record { digits = digits; value = value; after_cr = cr; wrong = wrong }

abbrev pub new_line : Line
new_line = line_of 0 (Some 0) false None

-- This byte stands behind the digits, and may not.
abbrev pub wrong_line : Line → ℕ → Line
wrong_line l b = line_of l.digits l.value l.after_cr (Some b)

-- A carriage return stands behind the digits; only a line feed may follow.
abbrev pub cr_line : Line → Line
cr_line l = line_of l.digits l.value true None

-- A number, unless it is too large.
abbrev pub if_it_fits : ℕ → Option ℕ
if_it_fits number = cond (nat_le (2 ^ 64) number) None (Some number)

-- One digit more. A number that is too large stays so.
abbrev pub digit_line : Line → ℕ → Line
digit_line l digit = line_of ((l.digits + 1) % 2 ^ 64) (option_and_then (λ value. if_it_fits (value * 10 + digit)) l.value) false None

-- One byte more.
unfoldable pub byte_of : Line → ℕ → Line
byte_of l b =
    first_that_holds
    (check (is_some l.wrong) l ∷ check l.after_cr (wrong_line l 13) ∷ check (b == 13) (cr_line l) ∷ check (not (is_digit b)) (wrong_line l b) ∷ [])
    (digit_line l (digit_of b))

unfoldable pub bytes_of : Line → List ℕ → Line
bytes_of l [] = l
bytes_of l (b ∷ bs) = bytes_of (byte_of l b) bs

-- What the line says at its end.
unfoldable pub ended_of : Line → Result ℕ NumeralError
ended_of l =
    first_that_holds (check (is_some l.wrong) (Err (NotADigit l.digits (unwrap_or l.wrong 0))) ∷ check (l.digits == 0) (Err Empty) ∷ [])
    (ok_or l.value TooLarge)

-- ---- what that comes to

-- A line without the carriage return that belongs to its end.
unfoldable pub without_cr : List ℕ → List ℕ
without_cr [] = []
without_cr (b ∷ []) = cond (b == 13) [] (b ∷ [])
without_cr (b ∷ c ∷ cs) = b ∷ without_cr (c ∷ cs)

abbrev pub AnEndedLineIsRead : Type 0
AnEndedLineIsRead = (line : List ℕ) → length line < 2 ^ 64 → ended_of (bytes_of new_line line) ≡ read_of (without_cr line)
