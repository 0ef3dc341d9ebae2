-- What the packer's operations on words come to in numbers: the value goes above the held bits, so the word is a sum; its low 64 bits are
-- emitted, and what a shift leaves of the value is the sum's quotient by 2 ^ 64. All by lib.Pow's cuts.
use Rattle.std.specs.Int.{div_ceil}
use mathlib.Core.Path.{◌≡◌, refl, sym, ap, ap₂, ◌∙◌, subst, subst₂}
use mathlib.Core.Logic.{⊎_elim}
use mathlib.Core.Bool.{Bool, true, false, not, ◌||◌, true≢false}
use mathlib.Core.List.{List, ◌++◌}
use Prim.Native.Nat.{ℕ, suc, ◌+◌, ◌-◌, ◌*◌, ◌/◌, ◌%◌, ◌^◌, ◌≤◌, ◌<◌}
use native.Mathlib.Nat.{lt_of_lt_of_le, div-eq_of_lt, le-div_iff_mul-le, div-one, add_comm, one-mul, add-zero, mul-mod_left, mod-eq_of_lt, sub-zero}
use native.Mathlib.Numerals.{add-one}
use native.Mathlib.Omega.{arith}
use lib.Dec.{leb, eqb}
use lib.Arith.{digits_lt}
use lib.Bits.{bit_or, or_shifted_r}
use lib.Pow.{pow_pos, pow_mono, pow-add, shl-shr, shr-shr, high, low, mod-pow-add}
use lib.ListN.{length, get_or, drop, set}
use lib.Seq.{set_at, drop-cons, append_snoc}
use borrow.Author.Tests.{leb-false, le-leb, lt-leb, lt-ltb, le-ltb, ne_eqb}
use Rattle.bit_rule.specs.Bytes.{bytes_of, bytes_for}
use Rattle.bit_rule.proofs.Bytes.{length-bytes_of, bytes_of-add, bytes_of_cut}
use Rattle.bit_rule.proofs.Width.{le_or_lt}
use Rattle.refusal.specs.declared.Refusal.TheVariants.{NoRoom}
use Rattle.bitpacker.specs.declared.BitPacker.{BitPacker}
use Rattle.bitpacker.specs.Packer.{outcome, refused, holding, fresh, emit, complete_bytes, damaged_packer, written, write_of, flush_of, emitting}

-- a quotient by 2 ^ bits is 0 exactly below 2 ^ bits
pub over_law : (bits x : ℕ) → not (eqb (x / 2 ^ bits) 0) ≡ leb (2 ^ bits) x
over_law bits x =
    ⊎_elim
    (λ reached.
    let some : 1 ≤ x / 2 ^ bits = (le-div_iff_mul-le (pow_pos bits)).1 (subst (λ k. k ≤ x) (sym (one-mul (2 ^ bits))) reached) in
    ap not (ne_eqb (x / 2 ^ bits) 0 (λ e. omega arith)) ∙ sym (le-leb (2 ^ bits) x reached))
    (λ below. ap (λ q. not (eqb q 0)) (div-eq_of_lt below) ∙ sym (lt-leb (2 ^ bits) x below))
    (le_or_lt (2 ^ bits) x)

-- from 64 bits on no u64 reaches 2 ^ bits
pub none_over : (bits x : ℕ) → x < 2 ^ 64 → 64 ≤ bits → leb (2 ^ bits) x ≡ false
none_over bits x word wide = lt-leb (2 ^ bits) x (lt_of_lt_of_le word (pow_mono wide))

-- one more byte of x behind the i that stand there already
pub emit_more : (i x : ℕ) (out : List ℕ) → i < length out → set (emit i x out) i (x / 256 ^ i % 256) ≡ emit (i + 1) x out
unfolding bytes_of
emit_more i x out h =
    let next = x / 256 ^ i % 256 in
    ap (λ l. set (bytes_of i x ++ l) i next) (drop-cons out i 0 h)
    ∙ set_at (bytes_of i x) (get_or out i 0) (drop (suc i) out) next i (length-bytes_of i x)
    ∙ sym (append_snoc (bytes_of i x) next (drop (suc i) out))
    ∙ ap₂ (λ l k. l ++ drop k out) (sym (bytes_of-add i 1 x)) (sym (add-one i))

-- a packer that is not damaged
pub record Sound (p : BitPacker) : Type 0 where
  pub bits : p.mini_buffer_written < 64
  pub held : p.mini_buffer < 2 ^ p.mini_buffer_written

pub sound : (p : BitPacker) → damaged_packer p ≡ false → Sound p
unfolding damaged_packer
sound p h = go (leb 64 p.mini_buffer_written) refl h
  where
    go : (t : Bool) → leb 64 p.mini_buffer_written ≡ t → (t || leb (2 ^ p.mini_buffer_written) p.mini_buffer) ≡ false → Sound p
    go true e h = absurd (true≢false h)
    go false e h = record { bits = leb-false 64 p.mini_buffer_written e; held = leb-false _ _ h }

-- ---- the word that a write makes: h is held in b bits, and v goes above it

module _ (k b h v : ℕ) (room : b ≤ k) (held : h < 2 ^ b) where
  sum_comm : h + v * 2 ^ b ≡ v * 2 ^ b + h
  sum_comm = add_comm h (v * 2 ^ b)

  above : k ≡ k - b + b
  above = omega arith

  -- a word of k bits keeps the sum's low k bits
  pub word_sum : bit_or h ((v * 2 ^ b) % 2 ^ k) ≡ (h + v * 2 ^ b) % 2 ^ k
  word_sum =
      let j = k - b in
      let shifted : (v * 2 ^ b) % 2 ^ k ≡ (v % 2 ^ j) * 2 ^ b =
      ap (λ x. (v * 2 ^ b) % 2 ^ x) above
      ∙ mod-pow-add (v * 2 ^ b) j b
      ∙ ap₂ (λ q r. q % 2 ^ j * 2 ^ b + r) (shl-shr v b) (mul-mod_left v (2 ^ b))
      ∙ add-zero ((v % 2 ^ j) * 2 ^ b) in
      let cut : (h + v * 2 ^ b) % 2 ^ k ≡ (v % 2 ^ j) * 2 ^ b + h =
      ap₂ (λ n x. n % 2 ^ x) sum_comm above
      ∙ mod-pow-add (v * 2 ^ b + h) j b
      ∙ ap₂ (λ q r. q % 2 ^ j * 2 ^ b + r) (high v b held) (low v b held) in
      ap (bit_or h) shifted ∙ or_shifted_r (v % 2 ^ j) b h held ∙ sym cut

  -- and what does not fit is the value without the bits that did
  pub word_rest : (h + v * 2 ^ b) / 2 ^ k ≡ v / 2 ^ (k - b)
  word_rest =
      ap₂ (λ n x. n / 2 ^ x) sum_comm (above ∙ add_comm (k - b) b)
      ∙ sym (shr-shr (v * 2 ^ b + h) b (k - b))
      ∙ ap (λ q. q / 2 ^ (k - b)) (high v b held)

-- the two shifts that the code takes in the place of one, which could be by 64
pub two_shifts : (v b : ℕ) → b < 64 → v / 2 / 2 ^ (63 - b) ≡ v / 2 ^ (64 - b)
two_shifts v b h = shr-shr v 1 (63 - b) ∙ ap (λ x. v / 2 ^ x) (omega arith)

-- ---- what a write leaves, in the two forms that the code makes

module _ (p : BitPacker) (v w : ℕ) (out : List ℕ) (p-sound : Sound p) (fits : v < 2 ^ w) where
  -- no word is complete yet
  pub written_held : p.mini_buffer_written + w < 64
      → written p v w out
      ≡ outcome
      (emitting (holding (p.mini_buffer_written + w) (bit_or p.mini_buffer ((v * 2 ^ p.mini_buffer_written) % 2 ^ 64))) 0)
      out
  unfolding written bytes_of
  written_held short =
      let h = p.mini_buffer in
      let b = p.mini_buffer_written in
      let sum = h + v * 2 ^ b in
      let small : sum < 2 ^ 64 =
      lt_of_lt_of_le
      (subst₂ (λ x y. x < y) (add_comm (v * 2 ^ b) h) (sym (pow-add 2 w b)) (digits_lt fits p-sound.held))
      (pow_mono {i = w + b} {j = 64} (omega (arith, p-sound.bits))) in
      let word : sum / 1 ≡ bit_or h ((v * 2 ^ b) % 2 ^ 64) =
      div-one sum ∙ sym (mod-eq_of_lt small) ∙ sym (word_sum 64 b h v (omega (arith, p-sound.bits)) p-sound.held) in
      ap (λ q. outcome (emitting (holding (b + w - 8 * (8 * q)) (sum / 256 ^ (8 * q))) (8 * q)) (emit (8 * q) sum out)) (div-eq_of_lt short)
      ∙ ap₂ (λ x y. outcome (emitting (holding x y) 0) out) (sub-zero (b + w)) word

  -- a word is complete
  pub written_word : 64 ≤ p.mini_buffer_written + w → w ≤ 64
      → written p v w out
      ≡ outcome
      (emitting (holding (p.mini_buffer_written + w - 64) (v / 2 / 2 ^ (63 - p.mini_buffer_written))) 8)
      (emit 8 (bit_or p.mini_buffer ((v * 2 ^ p.mini_buffer_written) % 2 ^ 64)) out)
  unfolding written
  written_word complete narrow =
      let h = p.mini_buffer in
      let b = p.mini_buffer_written in
      let sum = h + v * 2 ^ b in
      let room : b ≤ 64 = omega (arith, p-sound.bits) in
      let one : (b + w) / 64 ≡ 1 = omega (arith, p-sound.bits) in
      let rest : sum / 256 ^ 8 ≡ v / 2 / 2 ^ (63 - b) =
      word_rest 64 b h v room p-sound.held ∙ sym (two_shifts v b p-sound.bits) in
      let bytes : bytes_of 8 sum ≡ bytes_of 8 (bit_or h ((v * 2 ^ b) % 2 ^ 64)) =
      sym (bytes_of_cut 8 sum) ∙ ap (bytes_of 8) (sym (word_sum 64 b h v room p-sound.held)) in
      ap (λ q. outcome (emitting (holding (b + w - 8 * (8 * q)) (sum / 256 ^ (8 * q))) (8 * q)) (emit (8 * q) sum out)) one
      ∙ ap₂ (λ x l. outcome (emitting (holding (b + w - 64) x) 8) (l ++ drop 8 out)) rest bytes

-- past the first three checks only the room is left to judge
module _ (p : BitPacker) (v w : ℕ) (out : List ℕ) (whole : damaged_packer p ≡ false) (narrow : w ≤ 64) (fits : leb (2 ^ w) v ≡ false) where
  pub write_room : complete_bytes (p.mini_buffer_written + w) ≤ length out → write_of p v w out ≡ written p v w out
  unfolding write_of
  write_room room = simp (whole, le-leb _ _ narrow, fits, le-ltb _ _ room)

  pub write_no_room : length out < complete_bytes (p.mini_buffer_written + w) → write_of p v w out ≡ refused NoRoom out
  unfolding write_of
  write_no_room short = simp (whole, le-leb _ _ narrow, fits, lt-ltb _ _ short)

-- std's ceil(bits / 8) is the count of bytes
pub ceil_bytes : (bits : ℕ) → div_ceil bits 8 ≡ bytes_for bits
ceil_bytes bits = omega arith

-- the same of a flush
module _ (p : BitPacker) (out : List ℕ) (whole : damaged_packer p ≡ false) where
  pub flush_room : bytes_for p.mini_buffer_written ≤ length out
      → flush_of p out ≡ outcome (emitting fresh (bytes_for p.mini_buffer_written)) (emit (bytes_for p.mini_buffer_written) p.mini_buffer out)
  unfolding flush_of
  flush_room room = simp (whole, le-ltb _ _ room)

  pub flush_no_room : length out < bytes_for p.mini_buffer_written → flush_of p out ≡ refused NoRoom out
  unfolding flush_of
  flush_no_room short = simp (whole, lt-ltb _ _ short)
