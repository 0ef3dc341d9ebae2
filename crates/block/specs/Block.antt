-- Document 01, "The blocked store": "The 128th waiting value seals a block: base = lowest, w = width of (highest - lowest), the differences
-- packed at w. A sealed block takes ceil(n*w/8) bytes at the used offset, followed by eight zero bytes. Its two entry words are
-- offset + w * 2^56, and base." "To read, .. value = base + difference modulo 2^64."
-- How a block is packed, how many words its entry has and what they are, and how a value is read back stand here alone.
use Rattle.std.specs.Prelude.{ℕ, ◌+◌, ◌-◌, ◌*◌, ◌/◌, ◌%◌, ◌^◌, Bool, not, ◌||◌, ltb, List, [], ◌∷◌, map, length, drop, replicate, nat_lt, slice_index}
use Rattle.std.proofs.Math.Option.{Option, none, some}
use Rattle.bit_rule.specs.Bytes.{bytes_for}
use Rattle.bit_rule.specs.Stream.{of_width, stream_bytes}
use Rattle.bit_rule.specs.Place.{value_at}
use Rattle.bit_rule.specs.Width.{legal_width, width_of}
use Rattle.num_bits.specs.MinMax.{lowest, highest}

-- the value of a list that has one, and 0 of an empty list, which no block is
abbrev pub or_zero : Option ℕ → ℕ
or_zero none = 0
or_zero (some v) = v

-- ---- a block of values

unfoldable pub base_of : List ℕ → ℕ
base_of vs = or_zero (lowest ltb vs)

unfoldable pub block_width : List ℕ → ℕ
block_width vs = width_of (or_zero (highest ltb vs) - base_of vs)

abbrev pub differences : ℕ → List ℕ → List ℕ
differences base vs = map (λ v. v - base) vs

-- ceil(n*w/8)
abbrev pub bytes_of_block : ℕ → ℕ → ℕ
bytes_of_block n w = bytes_for (n * w)

unfoldable pub block_size : List ℕ → ℕ
block_size vs = bytes_of_block (length vs) (block_width vs)

unfoldable pub block_bytes : List ℕ → List ℕ
block_bytes vs = stream_bytes (of_width (block_width vs) (differences (base_of vs) vs))

-- "followed by eight zero bytes"
abbrev pub eight_zeros : List ℕ
eight_zeros = replicate 8 0

-- ---- its entry

abbrev pub words_per_entry : ℕ
words_per_entry = 2

unfoldable pub entry_words : ℕ → List ℕ → List ℕ
entry_words offset vs = (offset + block_width vs * 2 ^ 56) ∷ base_of vs ∷ []

-- What the words of entry k say, of a store that no history need have made.
unfoldable pub entry_offset : ℕ → List ℕ → ℕ
entry_offset k entries = slice_index entries (k * words_per_entry) % 2 ^ 56

unfoldable pub entry_width : ℕ → List ℕ → ℕ
entry_width k entries = slice_index entries (k * words_per_entry) / 2 ^ 56

unfoldable pub entry_base : ℕ → List ℕ → ℕ
entry_base k entries = slice_index entries (k * words_per_entry + 1)

-- "An entry that a read touches is damaged when its width isn't legal or offset + ceil(n*w/8) > used."
unfoldable pub damaged_entry : ℕ → ℕ → ℕ → List ℕ → Bool
damaged_entry used n k entries =
    not (legal_width (entry_width k entries)) || nat_lt used (entry_offset k entries + bytes_of_block n (entry_width k entries))

-- "value = base + difference modulo 2^64"
abbrev pub above_base : ℕ → ℕ → ℕ
above_base base difference = (base + difference) % 2 ^ 64

-- The value at place j of block k: from "the part of the byte area at its offset", base + difference modulo 2^64.
unfoldable pub block_value : ℕ → ℕ → List ℕ → List ℕ → ℕ
block_value k j bytes entries = above_base (entry_base k entries) (value_at (entry_width k entries) j (drop (entry_offset k entries) bytes))
