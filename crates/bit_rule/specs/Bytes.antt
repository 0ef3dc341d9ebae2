-- Bytes as a number, least byte first, and a number cut into bytes.
use Rattle.std.specs.Prelude.{ℕ, zero, suc, ◌+◌, ◌*◌, ◌/◌, ◌%◌, ◌<◌, List, [], ◌∷◌, get_or}

-- Every element is a byte. (Past its end a list counts as 0.)
abbrev pub AreBytes : List ℕ → Type 0
AreBytes bs = (i : ℕ) → get_or bs i 0 < 256

-- The number that a list of bytes stands for, "least byte first".
unfoldable pub number : List ℕ → ℕ
number [] = 0
number (b ∷ bs) = b + 256 * number bs

-- The n lowest bytes of a number, least byte first.
unfoldable pub bytes_of : ℕ → ℕ → List ℕ
bytes_of zero x = []
bytes_of (suc n) x = x % 256 ∷ bytes_of n (x / 256)

-- How many bytes hold so many bits: "ceil(total bits / 8)".
abbrev pub bytes_for : ℕ → ℕ
bytes_for bits = (bits + 7) / 8
