-- Document 01, "The bit rule": "Value i at width w is bits i*w to i*w+w-1 of the data. It lies in the data when
-- (i+1)*w <= 8 * data length. At width 0 every value is 0 at every index."
use Rattle.std.specs.Prelude.{ℕ, zero, suc, ◌+◌, ◌*◌, ◌/◌, ◌%◌, ◌^◌, Bool, List, [], ◌∷◌, leb}
use Rattle.bit_rule.specs.Bytes.{number}
use Rattle.bit_rule.specs.Stream.{Piece}

-- w bits from bit `at` on of the number that the bytes stand for.
unfoldable pub bits_at : ℕ → ℕ → List ℕ → ℕ
bits_at at w bs = number bs / 2 ^ at % 2 ^ w

-- The value at index i of width w.
unfoldable pub value_at : ℕ → ℕ → List ℕ → ℕ
value_at w i bs = bits_at (i * w) w bs

-- Whether the value at index i of width w lies in data of so many bytes.
abbrev pub lies_in : ℕ → ℕ → ℕ → Bool
lies_in w i len = leb ((i + 1) * w) (8 * len)

-- The n values of width w from index i on.
unfoldable pub values_from : ℕ → ℕ → ℕ → List ℕ → List ℕ
values_from w i zero bs = []
values_from w i (suc n) bs = value_at w i bs ∷ values_from w (i + 1) n bs

-- Values of given widths, one after the other from bit `at` on: what a stream of those widths holds there.
unfoldable pub pieces_from : ℕ → List ℕ → List ℕ → List Piece
pieces_from at [] bs = []
pieces_from at (w ∷ ws) bs = record { value = bits_at at w bs; width = w } ∷ pieces_from (at + w) ws bs
