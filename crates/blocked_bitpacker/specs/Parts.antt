-- What the private functions of the reading calls ask and leave.
use Rattle.std.specs.Prelude.{ℕ, ◌+◌, ◌*◌, ◌/◌, ◌%◌, ◌≤◌, ◌<◌, ◌≡◌, false, ◌&&◌, List, [], ◌∷◌, length, Ok, Err, Result}
use Rattle.refusal.specs.declared.Refusal.{Refusal}
use Rattle.refusal.specs.declared.Refusal.TheVariants.{Damaged}
use Rattle.refusal.specs.First.{check, first_that_holds}
use Rattle.blocked_bitpacker.specs.declared.BlockedBitpacker.{BlockedBitpacker}
use Rattle.block.specs.Block.{damaged_entry}
use Rattle.blocked_bitpacker.specs.Store.{SoundIn, damaged_store, count_of, length_of_block, in_block, value_of}

-- The value at an index below the count, unless it lies in a block whose entry is damaged.
unfoldable pub got : BlockedBitpacker → ℕ → List ℕ → List ℕ → Result ℕ Refusal
got s i bytes entries =
    first_that_holds
    (check (in_block s i && damaged_entry s.used (length_of_block s (i / 128)) (i / 128) entries) (Err Damaged) ∷ [])
    (Ok (value_of s bytes entries i))

-- What holds of a store that is not damaged in areas of so many bytes and entry words.
pub record Judged (s : BlockedBitpacker) (byteArea entryArea : ℕ) : Type 0 where
  pub sound : SoundIn s
  pub room : s.used + 8 ≤ byteArea
  pub entries_there : 2 * s.blocks ≤ entryArea

-- A store in its areas, which is not damaged, as it is lent on.
pub record LentOn (s : BlockedBitpacker) (bytes entries : List ℕ) (s' : BlockedBitpacker) (bytes' entries' : List ℕ) : Type 0 where
  pub fine : damaged_store s (length bytes) (length entries) ≡ false
  pub same_store : s' ≡ s
  pub same_bytes : bytes' ≡ bytes
  pub same_entries : entries' ≡ entries

-- Some indexes that all lie in one block, which is not damaged, or all among the values that wait.
pub record Stretch (s : BlockedBitpacker) (i n : ℕ) (entries : List ℕ) : Type 0 where
  pub some : 0 < n
  pub together : i % 128 + n ≤ 128
  pub counted : i + n ≤ count_of s
  pub fine : i / 128 < s.blocks → damaged_entry s.used (length_of_block s (i / 128)) (i / 128) entries ≡ false
