-- Document 01, "The bit rule": "A stream of values v0, v1, .. with widths w0, w1, .. is the number sum of vi * 2^(w0+..+w(i-1)), stored
-- least byte first in ceil(total bits / 8) bytes; spare high bits are 0."
use Rattle.std.specs.Prelude.{ℕ, ◌+◌, ◌*◌, ◌^◌, ◌<◌, List, [], ◌∷◌, map}
use Rattle.bit_rule.specs.Bytes.{bytes_of, bytes_for}

-- One value of a stream, with its width in bits.
pub record Piece : Type 0 where
  pub value : ℕ
  pub width : ℕ

-- w0 + w1 + ..
unfoldable pub total_bits : List Piece → ℕ
total_bits [] = 0
total_bits (p ∷ ps) = p.width + total_bits ps

-- The sum of vi * 2 ^ (w0 + .. + w(i-1)), where the first value stands at bit `at`.
unfoldable pub sum_from : ℕ → List Piece → ℕ
sum_from at [] = 0
sum_from at (p ∷ ps) = p.value * 2 ^ at + sum_from (at + p.width) ps

unfoldable pub stream_number : List Piece → ℕ
stream_number ps = sum_from 0 ps

unfoldable pub stream_bytes : List Piece → List ℕ
stream_bytes ps = bytes_of (bytes_for (total_bits ps)) (stream_number ps)

-- Each value fits its width: v < 2 ^ w.
abbrev pub Fit : List Piece → Type 0
Fit [] = Unit {0}
Fit (p ∷ ps) = (p.value < 2 ^ p.width) × Fit ps

-- A column of one width is the case in which every width is the same.
abbrev pub piece_at : ℕ → ℕ → Piece
piece_at w v = record { value = v; width = w }

abbrev pub of_width : ℕ → List ℕ → List Piece
of_width w vs = map (piece_at w) vs
