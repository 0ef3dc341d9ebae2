-- What the private functions of the three calls ask, answer and leave.
use Rattle.std.specs.Prelude.{ℕ, ◌+◌, ◌*◌, ◌^◌, ◌≤◌, ◌<◌, ◌≡◌, List, [], ◌∷◌, length, Err, Result}
use Rattle.refusal.specs.declared.Refusal.{Refusal}
use Rattle.refusal.specs.declared.Refusal.TheVariants.{BadWidth, Damaged}
use Rattle.refusal.specs.First.{check, first_that_holds}
use Rattle.refusal.specs.Done.{done}
use Rattle.bit_rule.specs.Bytes.{AreBytes}
use Rattle.bit_rule.specs.Search.{pasted_at}
use Rattle.bitunpacker.specs.declared.BitUnpacker.{BitUnpacker}
use Rattle.bitunpacker.specs.Unpacker.{bad_width, damaged_mask, Sound}

-- The two checks that every call begins with.
unfoldable pub checked : BitUnpacker → Result (Unit {0}) Refusal
checked u = first_that_holds (check (bad_width u) (Err BadWidth) ∷ check (damaged_mask u) (Err Damaged) ∷ []) done

-- A sound unpacker, n values from index 0 of which lie in the data. (n is no more than a slice of values and a u32 start come to.)
pub record InData (u : BitUnpacker) (n : ℕ) (bytes : List ℕ) : Type 0 where
  pub sound : Sound u
  pub as_bytes : AreBytes bytes
  pub few : n < 2 ^ 61
  pub inside : n * u.num_bits ≤ 8 * length bytes

-- ids stand in the positions from place `found` on, and r counts those and the ones before them.
pub record Kept (found : ℕ) (ids before : List ℕ) (r : ℕ) (after : List ℕ) : Type 0 where
  pub count : r ≡ found + length ids
  pub pasted : after ≡ pasted_at found ids before
