-- Document 01, "The bit rule": "A write holds back up to 63 bits and emits eight bytes each time 64 are complete, to the start of the output
-- part it is given, and says how many bytes it emitted (0 or 8). A flush emits ceil(held / 8) bytes there; in both, later bytes of the part
-- stay. After a flush the next value starts on a byte boundary. Flushing with nothing held emits nothing."
-- "Order of checks: write: 8, 1, 2, 4. Flush of a packer: 8, 4." "A refusal returns its number and nothing else; buffers and packer stay."
use Rattle.std.specs.Prelude.{ℕ, ◌+◌, ◌-◌, ◌*◌, ◌/◌, ◌^◌, Bool, not, ◌||◌, List, [], ◌∷◌, ◌++◌, leb, ltb, length, drop, Ok, Err, Result}
use Rattle.bit_rule.specs.Bytes.{bytes_of, bytes_for}
use Rattle.bit_rule.specs.Width.{packer_width}
use Rattle.refusal.specs.declared.Refusal.{Refusal}
use Rattle.refusal.specs.declared.Refusal.TheVariants.{BadWidth, TooWide, NoRoom, Damaged}
use Rattle.refusal.specs.First.{check, first_that_holds}
use Rattle.bitpacker.specs.declared.BitPacker.{BitPacker}
use Rattle.bitpacker.specs.declared.Written.{Written}

-- What a call answers, and what the lent output then holds.
pub record Outcome : Type 0 where
  pub answer : Result Written Refusal
  pub output : List ℕ

abbrev pub outcome : Result Written Refusal → List ℕ → Outcome
outcome r out = record { answer = r; output = out }

-- The packer goes on as it then is, and so many bytes were emitted.
abbrev pub emitting : BitPacker → ℕ → Result Written Refusal
emitting p n = Ok (record { packer = p; emitted = n })

-- A refusal leaves the output as it came.
abbrev pub refused : Refusal → List ℕ → Outcome
refused why out = outcome (Err why) out

-- The packer that holds so many bits, the number of which is given.
abbrev pub holding : ℕ → ℕ → BitPacker
holding bits n = record { mini_buffer = n; mini_buffer_written = bits }

abbrev pub fresh : BitPacker
fresh = holding 0 0

-- "Damaged: packer with 64 or more bits held, or held bits >= 2^held"
unfoldable pub damaged_packer : BitPacker → Bool
damaged_packer p = leb 64 p.mini_buffer_written || leb (2 ^ p.mini_buffer_written) p.mini_buffer

-- The n lowest bytes of a number, at the start of the output; the output's later bytes stay.
abbrev pub emit : ℕ → ℕ → List ℕ → List ℕ
emit n x out = bytes_of n x ++ drop n out

-- Eight bytes for each 64 bits that are complete.
abbrev pub complete_bytes : ℕ → ℕ
complete_bytes bits = 8 * (bits / 64)

-- The value goes above the held bits; what is complete is emitted, and the rest is held.
unfoldable pub written : BitPacker → ℕ → ℕ → List ℕ → Outcome
written p v w out =
    let bits = p.mini_buffer_written + w in
    let sum = p.mini_buffer + v * 2 ^ p.mini_buffer_written in
    let n = complete_bytes bits in
    outcome (emitting (holding (bits - 8 * n) (sum / 256 ^ n)) n) (emit n sum out)

unfoldable pub write_of : BitPacker → ℕ → ℕ → List ℕ → Outcome
write_of p v w out =
    first_that_holds
    (check (damaged_packer p) (refused Damaged out)
    ∷ check (not (packer_width w)) (refused BadWidth out)
    ∷ check (leb (2 ^ w) v) (refused TooWide out)
    ∷ check (ltb (length out) (complete_bytes (p.mini_buffer_written + w))) (refused NoRoom out)
    ∷ [])
    (written p v w out)

unfoldable pub flush_of : BitPacker → List ℕ → Outcome
flush_of p out =
    let n = bytes_for p.mini_buffer_written in
    first_that_holds (check (damaged_packer p) (refused Damaged out) ∷ check (ltb (length out) n) (refused NoRoom out) ∷ [])
    (outcome (emitting fresh n) (emit n p.mini_buffer out))
