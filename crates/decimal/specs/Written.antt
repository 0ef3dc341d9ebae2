-- A number written in decimal, as the toolchain's `io::decimal` writes it: the fewest digits, the most significant first. What is written is
-- read as the number; and what is read, written with as many digits as the text has, is the text, zeros in front included.
-- A number is shown by `{}` of a format, as in the rows that `./column` prints: `decimal n`, by the toolchain's `Display` of the unsigned
-- types. That is what `io::decimal` writes; it is read as the number; and a text that is read, with no zero in front that it could do without,
-- is what is shown of its number.
use Rattle.std.specs.Prelude.{◌≡◌, ℕ, ◌^◌, ◌<◌, List, length, Ok, decimal}
use Rattle.io.specs.Digits.{last_digits, IsDigitCount}
use Rattle.decimal.specs.Digits.{read_of}

abbrev pub WhatIsWrittenIsRead : Type 0
WhatIsWrittenIsRead = (n k : ℕ) → n < 2 ^ 64 → IsDigitCount 10 1 n k → read_of (last_digits 10 k n) ≡ Ok n

abbrev pub WhatIsReadIsWritten : Type 0
WhatIsReadIsWritten = (text : List ℕ) (n : ℕ) → read_of text ≡ Ok n → last_digits 10 (length text) n ≡ text

abbrev pub WhatIsShownIsWritten : Type 0
WhatIsShownIsWritten = (n k : ℕ) → n < 2 ^ 64 → IsDigitCount 10 1 n k → decimal n ≡ last_digits 10 k n

abbrev pub WhatIsShownIsRead : Type 0
WhatIsShownIsRead = (n : ℕ) → n < 2 ^ 64 → read_of (decimal n) ≡ Ok n

abbrev pub WhatIsReadIsShown : Type 0
WhatIsReadIsShown = (text : List ℕ) (n : ℕ) → read_of text ≡ Ok n → IsDigitCount 10 1 n (length text) → decimal n ≡ text
