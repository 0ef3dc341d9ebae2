-- A decimal numeral is one or more digits, the most significant first; leading zeros are allowed. It stands for the sum of its digits times
-- powers of ten.
use Rattle.std.specs.Prelude.{ℕ, suc, ◌+◌, ◌-◌, ◌*◌, ◌^◌, Bool, cond, not, ◌&&◌, List, [], ◌∷◌, length, ◌==◌, nat_le, nat_lt, slice_index, Result, Ok, Err}
use Rattle.refusal.specs.First.{check, first_that_holds}
use Rattle.decimal.specs.declared.NumeralError.{NumeralError}
use Rattle.decimal.specs.declared.NumeralError.TheVariants.{Empty, NotADigit, TooLarge}

-- `0` to `9`
abbrev pub is_digit : ℕ → Bool
is_digit b = nat_le 48 b && nat_le b 57

abbrev pub digit_of : ℕ → ℕ
digit_of b = b - 48

-- The place of the first byte that is no digit, or the length where all are.
unfoldable pub first_other : List ℕ → ℕ
first_other [] = 0
first_other (b ∷ bs) = cond (is_digit b) (suc (first_other bs)) 0

-- The number that digits stand for.
unfoldable pub numeral : List ℕ → ℕ
numeral [] = 0
numeral (b ∷ bs) = digit_of b * 10 ^ length bs + numeral bs

-- The number of a numeral with one digit more, from the number so far.
unfoldable pub append_of : ℕ → ℕ → Result ℕ NumeralError
append_of value b =
    let number = value * 10 + digit_of b in
    first_that_holds (check (not (is_digit b)) (Err (NotADigit 0 b)) ∷ check (nat_le (2 ^ 64) number) (Err TooLarge) ∷ []) (Ok number)

unfoldable pub number_or_too_large : List ℕ → Result ℕ NumeralError
number_or_too_large text = first_that_holds (check (nat_le (2 ^ 64) (numeral text)) (Err TooLarge) ∷ []) (Ok (numeral text))

-- The first thing that is wrong, or the number.
unfoldable pub read_of : List ℕ → Result ℕ NumeralError
read_of text =
    first_that_holds
    (check (length text == 0) (Err Empty)
    ∷ check (nat_lt (first_other text) (length text)) (Err (NotADigit (first_other text) (slice_index text (first_other text))))
    ∷ [])
    (number_or_too_large text)
