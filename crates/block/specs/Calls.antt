-- What sealing and reading one block answer and leave. They know nothing of a store.
use Rattle.std.specs.Prelude.{◌≡◌, ℕ, ◌+◌, ◌<◌, ◌≤◌, cond, not, ltb, List, [], ◌∷◌, ◌++◌, map, length, ◌==◌, nat_le, nat_lt, slice_index, Ok, Err, Result}
use Rattle.refusal.specs.declared.Refusal.{Refusal}
use Rattle.bit_rule.specs.Place.{value_at, lies_in, values_from}
use Rattle.bit_rule.specs.Search.{at_start}
use Rattle.bit_rule.specs.Width.{legal_width}
use Rattle.refusal.specs.declared.Refusal.TheVariants.{BadWidth, OutOfData, NoRoom}
use Rattle.refusal.specs.First.{check, first_that_holds}
use Rattle.refusal.specs.Done.{done}
use Rattle.bitunpacker.specs.Unpacker.{Range, range, unpacker_of, out_of_data}
use Rattle.block.specs.declared.Sealed.{Sealed}
use Rattle.block.specs.Block.{or_zero, base_of, block_width, block_size, block_bytes, eight_zeros, above_base}

-- What sealing answers, and what the part of the byte area then holds.
pub record Outcome : Type 0 where
  pub answer : Result Sealed Refusal
  pub bytes : List ℕ

abbrev pub outcome : Result Sealed Refusal → List ℕ → Outcome
outcome r bytes = record { answer = r; bytes = bytes }

-- A block that was sealed, with its base, width and size.
abbrev pub sealed_as : ℕ → ℕ → ℕ → Result Sealed Refusal
sealed_as base width size = Ok (record { base = base; width = width; size = size })

-- The block's bytes and eight zeros at the start of the part; its base, width and size are answered.
unfoldable pub seal_of : List ℕ → List ℕ → Outcome
seal_of vs bytes =
    first_that_holds (check (nat_lt (length bytes) (block_size vs + 8)) (outcome (Err NoRoom) bytes) ∷ [])
    (outcome (sealed_as (base_of vs) (block_width vs) (block_size vs)) (at_start (block_bytes vs ++ eight_zeros) bytes))

-- The values from place `first` on of a block that starts with the bytes.
unfoldable pub read_of : ℕ → ℕ → ℕ → List ℕ → List ℕ → Range
read_of base w first bytes out =
    first_that_holds
    (check (not (legal_width w)) (range (Err BadWidth) out)
    ∷ check (length out == 0) (range done out)
    ∷ check (out_of_data (unpacker_of w) (first + length out) bytes) (range (Err OutOfData) out)
    ∷ [])
    (range done (map (above_base base) (values_from w first (length out) bytes)))

-- The value at one place of a block that starts with the bytes.
unfoldable pub read_one_of : ℕ → ℕ → ℕ → List ℕ → Result ℕ Refusal
read_one_of base w place bytes =
    first_that_holds
    (check (not (legal_width w)) (Err BadWidth)
    ∷ check (not (lies_in w place (length bytes))) (Err OutOfData)
    ∷ [])
    (Ok (above_base base (value_at w place bytes)))

-- Eight zeros at the start of what has room for them; less is left alone.
unfoldable pub cleared_of : List ℕ → List ℕ
cleared_of bytes = cond (nat_le 8 (length bytes)) (at_start eight_zeros bytes) bytes

-- The lowest and the highest of the values, both 0 where there are none.
pub record Extent (low high : ℕ) (vs : List ℕ) : Type 0 where
  pub lowest : low ≡ base_of vs
  pub highest : high ≡ or_zero (Rattle.num_bits.specs.MinMax.highest ltb vs)
  pub order : low ≤ high
  pub under : (i : ℕ) → i < length vs → low ≤ slice_index vs i
  pub over : (i : ℕ) → i < length vs → slice_index vs i ≤ high
