-- Document 01, "The blocked store": what the accepted values define. "Used bytes equal at every moment the sum of ceil(n*w/8) over the blocks
-- that the accepted values, cut by 128 and by the closing flush, define." Of a closed store the last block is what is left after the blocks
-- of 128; of an open store these values wait. What a block is, and its entry, stands in `block`.
use Rattle.std.specs.Prelude.{ℕ, zero, suc, ◌+◌, ◌*◌, ◌/◌, ◌%◌, Bool, cond, List, [], ◌++◌, length, take, drop}
use Rattle.bit_rule.specs.Search.{at_start}
use Rattle.block.specs.Block.{block_size, block_bytes, entry_words, eight_zeros}
use Rattle.blocked_bitpacker.specs.declared.BlockedBitpacker.{BlockedBitpacker}
use Rattle.blocked_bitpacker.specs.Store.{none_waiting, store_of}

-- A store with the two areas that are lent at every call.
pub record Held : Type 0 where
  pub store : BlockedBitpacker
  pub bytes : List ℕ
  pub entries : List ℕ

abbrev pub held : BlockedBitpacker → List ℕ → List ℕ → Held
held s bytes entries = record { store = s; bytes = bytes; entries = entries }

-- ---- the blocks

-- How many there are.
abbrev pub blocks_by : List ℕ → Bool → ℕ
blocks_by vs closed = cond closed ((length vs + 127) / 128) (length vs / 128)

-- The values of block k.
abbrev pub block_at : List ℕ → ℕ → List ℕ
block_at vs k = take 128 (drop (128 * k) vs)

-- The sum of so many sizes, and so many lists one after the other.
unfoldable pub sum_of : (ℕ → ℕ) → ℕ → ℕ
sum_of size zero = 0
sum_of size (suc n) = sum_of size n + size n

unfoldable pub in_order : (ℕ → List ℕ) → ℕ → List ℕ
in_order part zero = []
in_order part (suc n) = in_order part n ++ part n

-- Of the first n blocks: how many bytes they take, their bytes, and their entries, each with the offset at which its block starts.
unfoldable pub used_by : List ℕ → ℕ → ℕ
used_by vs n = sum_of (λ k. block_size (block_at vs k)) n

unfoldable pub bytes_by : List ℕ → ℕ → List ℕ
bytes_by vs n = in_order (λ k. block_bytes (block_at vs k)) n

unfoldable pub entries_by : List ℕ → ℕ → List ℕ
entries_by vs n = in_order (λ k. entry_words (used_by vs k) (block_at vs k)) n

-- ---- the rest

abbrev pub waiting_by : List ℕ → Bool → List ℕ
waiting_by vs closed = cond closed [] (drop (128 * (length vs / 128)) vs)

-- "last length 0 means open"
abbrev pub last_length_by : List ℕ → Bool → ℕ
last_length_by vs closed = cond closed (length vs % 128) 0

-- ---- the store

-- Its places are the values that wait, and zeros.
unfoldable pub store_by : List ℕ → Bool → BlockedBitpacker
store_by vs closed =
    store_of (at_start (waiting_by vs closed) none_waiting) (used_by vs (blocks_by vs closed)) (blocks_by vs closed) (length (waiting_by vs closed)) (last_length_by vs closed)

-- The byte area starts with the blocks' bytes and eight zeros, the entry area with their entries. Past these both are as they came.
unfoldable pub held_by : List ℕ → Bool → List ℕ → List ℕ → Held
held_by vs closed bytes entries =
    held (store_by vs closed) (at_start (bytes_by vs (blocks_by vs closed) ++ eight_zeros) bytes) (at_start (entries_by vs (blocks_by vs closed)) entries)
