-- Document 01, "The blocked store": what a store is, in the two areas that are lent with it.
use Rattle.std.specs.Prelude.{◌≡◌, ℕ, zero, suc, ◌+◌, ◌-◌, ◌*◌, ◌/◌, ◌%◌, ◌≤◌, ◌<◌, min, Bool, false, ◌||◌, ◌&&◌, cond, List, [], ◌∷◌, ltb, eqb, get_or, replicate}
use Rattle.blocked_bitpacker.specs.declared.BlockedBitpacker.{BlockedBitpacker}
use Rattle.block.specs.Block.{words_per_entry, damaged_entry, block_value}

-- "Limit: 16,777,216 blocks."
abbrev pub block_limit : ℕ
block_limit = 16777216

-- "128 places, all zero in a fresh store"
abbrev pub none_waiting : List ℕ
none_waiting = replicate 128 0

abbrev pub store_of : List ℕ → ℕ → ℕ → ℕ → ℕ → BlockedBitpacker
store_of places used blocks waiting last =
    record { buffer = places; used = used; blocks = blocks; waiting = waiting; last_length = last }

abbrev pub fresh_store : BlockedBitpacker
fresh_store = store_of none_waiting 0 0 0 0

-- "last length 0 means open"
abbrev pub is_closed : BlockedBitpacker → Bool
is_closed s = ltb 0 s.last_length

-- "Damaged: store with waiting > 127, blocks above the limit, used > 1,024 * blocks, used + 8 > byte area, 2 * blocks > entry words, last
-- length > 127, or last length > 0 together with waiting > 0 or no block"
unfoldable pub damaged_store : BlockedBitpacker → ℕ → ℕ → Bool
damaged_store s byteArea entryArea =
    ltb 127 s.waiting
    || ltb block_limit s.blocks
    || ltb (1024 * s.blocks) s.used
    || ltb byteArea (s.used + 8)
    || ltb entryArea (words_per_entry * s.blocks)
    || ltb 127 s.last_length
    || (is_closed s && (ltb 0 s.waiting || eqb s.blocks 0))

-- What holds of a store that is not damaged, whatever its areas: its counts are small.
pub record SoundIn (s : BlockedBitpacker) : Type 0 where
  pub few_waiting : s.waiting ≤ 127
  pub few_blocks : s.blocks ≤ block_limit
  pub short_last : s.last_length ≤ 127
  pub used_bound : s.used ≤ 1024 * s.blocks
  pub closed_alone : 0 < s.last_length → (s.waiting ≡ 0) × (0 < s.blocks)

-- "Count: 128 * blocks + waiting while open; 128 * (blocks - 1) + last length when closed."
unfoldable pub count_of : BlockedBitpacker → ℕ
count_of s = cond (is_closed s) (128 * (s.blocks - 1) + s.last_length) (128 * s.blocks + s.waiting)

-- How many values block k holds: 128, but in the last block of a closed store.
unfoldable pub length_of_block : BlockedBitpacker → ℕ → ℕ
length_of_block s k = cond (is_closed s && eqb (k + 1) s.blocks) s.last_length 128

-- Whether an index lies in a block, and not among the waiting values.
abbrev pub in_block : BlockedBitpacker → ℕ → Bool
in_block s i = ltb (i / 128) s.blocks

-- The value at an index of a store that is not damaged, honest or forged.
unfoldable pub value_of : BlockedBitpacker → List ℕ → List ℕ → ℕ → ℕ
value_of s bytes entries i =
    cond (in_block s i) (block_value (i / 128) (i % 128) bytes entries) (get_or s.buffer (i % 128) 0)

-- The values from an index on.
unfoldable pub values_of : BlockedBitpacker → List ℕ → List ℕ → ℕ → ℕ → List ℕ
values_of s bytes entries i zero = []
values_of s bytes entries i (suc n) = value_of s bytes entries i ∷ values_of s bytes entries (i + 1) n

-- Whether one of n blocks from block k on is damaged.
unfoldable pub damaged_blocks : BlockedBitpacker → List ℕ → ℕ → ℕ → Bool
damaged_blocks s entries k zero = false
damaged_blocks s entries k (suc n) = damaged_entry s.used (length_of_block s k) k entries || damaged_blocks s entries (k + 1) n

-- The blocks that hold one of the indexes from start to before end, which is above start: from the block of `start` to that of the last
-- index, but none that are not there.
unfoldable pub touched_damaged : BlockedBitpacker → List ℕ → ℕ → ℕ → Bool
touched_damaged s entries start end =
    damaged_blocks s entries (start / 128) (min ((end + 127) / 128) s.blocks - start / 128)
