-- What the words of an entry come to, and where the places of a block lie that is not damaged.
use Rattle.std.specs.Prelude.{Ok, Err, Result, is_err}
use Prim.Native.Nat.{ℕ, ◌+◌, ◌-◌, ◌*◌, ◌/◌, ◌%◌, ◌^◌, ◌≤◌, ◌<◌}
use mathlib.Core.Path.{◌≡◌, refl, sym, ap, ◌∙◌, subst}
use mathlib.Core.Bool.{Bool, true, false, not, ◌&&◌, cond}
use mathlib.Core.List.{List}
use native.Mathlib.Nat.{mul-le-mul_right}
use native.Mathlib.Omega.{arith}
use lib.Dec.{ltb, eqb}
use lib.ListN.{length, get_or, drop, length-drop}
use borrow.Author.Tests.{ltb-false, le-leb, not-false, eqb-true}
use Rattle.bit_rule.proofs.Width.{legal_le}
use Rattle.bit_rule.proofs.Parts.{rest_from, rest_from_is}
use Rattle.block.specs.Calls.{read_one_of}
use Rattle.blocked_bitpacker.proofs.Judged.{neither}
use Rattle.bit_rule.specs.Width.{legal_width}
use Rattle.bitunpacker.specs.declared.BitUnpacker.{BitUnpacker}
use Rattle.refusal.specs.declared.Refusal.{Refusal}
use Rattle.refusal.specs.declared.Refusal.TheVariants.{BadWidth}
use Rattle.bitunpacker.specs.Unpacker.{unpacker_of, new_of}
use Rattle.block.specs.Block.{bytes_of_block, entry_offset, entry_width, entry_base, damaged_entry, block_value}
use Rattle.blocked_bitpacker.specs.declared.BlockedBitpacker.{BlockedBitpacker}
use Rattle.blocked_bitpacker.specs.Store.{SoundIn, is_closed, count_of, length_of_block}

-- ---- an entry's words

pub offset_small : (k : ℕ) (entries : List ℕ) → entry_offset k entries < 2 ^ 56
unfolding entry_offset
offset_small k entries = omega arith

-- a width is a byte
pub width_small : (k : ℕ) (entries : List ℕ) → get_or entries (k * 2) 0 < 2 ^ 64 → entry_width k entries < 256
unfolding entry_width
width_small k entries fits = omega arith

-- ---- how many values a block holds

pub block_length-le : (s : BlockedBitpacker) (k : ℕ) → SoundIn s → length_of_block s k ≤ 128
unfolding length_of_block
block_length-le s k sound = go (is_closed s && eqb (k + 1) s.blocks)
  where
    go : (t : Bool) → cond t s.last_length 128 ≤ 128
    go true = omega (arith, sound.short_last)
    go false = omega arith

-- ---- whether an entry is damaged, by what `new` answers of its width

-- there is no unpacker exactly where the width is not legal
not_made : (w : ℕ) → is_err (new_of w) ≡ not (legal_width w)
unfolding new_of
not_made w = go (legal_width w)
  where
    go : (legal : Bool) → is_err {T = BitUnpacker} (cond (not legal) (Err BadWidth) (Ok (unpacker_of w))) ≡ not legal
    go true = refl
    go false = refl

module _ (used n k : ℕ) (entries : List ℕ) {w : ℕ} (width : w ≡ entry_width k entries) {made : Result BitUnpacker Refusal} (is : made ≡ new_of w) where
  illegal_is : not (legal_width (entry_width k entries)) ≡ is_err made
  illegal_is = ap (λ v. not (legal_width v)) (sym width) ∙ sym (not_made w) ∙ ap is_err (sym is)

  pub damaged_width : is_err made ≡ true → damaged_entry used n k entries ≡ true
  unfolding damaged_entry
  damaged_width refused = simp (illegal_is, refused)

  pub narrow_width : is_err made ≡ false → w ≤ 64
  narrow_width fine = subst (λ v. v ≤ 64) (sym width) (legal_le _ (not-false _ (illegal_is ∙ fine)))

  pub damaged_end : is_err made ≡ false → {at size : ℕ} → at ≡ entry_offset k entries → size ≡ bytes_of_block n w
      → damaged_entry used n k entries ≡ ltb used (at + size)
  unfolding damaged_entry
  damaged_end fine offset sized = simp (illegal_is, fine, offset, sized, width)

-- ---- a block that is not damaged

pub record Whole (used n k : ℕ) (entries : List ℕ) : Type 0 where
  pub legal : legal_width (entry_width k entries) ≡ true
  pub ends : entry_offset k entries + bytes_of_block n (entry_width k entries) ≤ used

pub whole : (used n k : ℕ) (entries : List ℕ) → damaged_entry used n k entries ≡ false → Whole used n k entries
unfolding damaged_entry
whole used n k entries fine =
    let w = entry_width k entries in
    let both = neither (not (legal_width w)) (ltb used (entry_offset k entries + bytes_of_block n w)) fine in
    record { legal = not-false _ both.0; ends = ltb-false _ _ both.1 }

pub narrow : {used n k : ℕ} {entries : List ℕ} → Whole used n k entries → entry_width k entries ≤ 64
narrow block = legal_le _ block.legal

module _ {used n k : ℕ} {entries : List ℕ} (block : Whole used n k entries) (bytes : List ℕ) (there : used ≤ length bytes) where
  pub part_starts : entry_offset k entries ≤ length bytes
  part_starts = omega (arith, block.ends)

  -- its values lie in the part of the byte area at its offset
  pub in_part : (m : ℕ) → m ≤ n → m * entry_width k entries ≤ 8 * length (drop (entry_offset k entries) bytes)
  in_part m few =
      let w = entry_width k entries in
      let bits : m * w ≤ n * w = mul-le-mul_right w few in
      simp length-drop (omega (arith, block.ends))

  -- reading one gives the value
  pub one_value : (j : ℕ) → j < n
      → read_one_of (entry_base k entries) (entry_width k entries) j (rest_from (entry_offset k entries) bytes) ≡ Ok (block_value k j bytes entries)
  unfolding read_one_of block_value
  one_value j below =
      rw rest_from_is
      (simp (block.legal, le-leb ((j + 1) * entry_width k entries) (8 * length (drop (entry_offset k entries) bytes)) (in_part (j + 1) (omega arith))))

-- ---- where an index lies

-- an index of a block is one of the block's values
pub place_below : (s : BlockedBitpacker) (i : ℕ) → i < count_of s → i / 128 < s.blocks → i % 128 < length_of_block s (i / 128)
unfolding count_of length_of_block
place_below s i below there = go (is_closed s) (eqb (i / 128 + 1) s.blocks) refl below
  where
    go : (closed last : Bool) → eqb (i / 128 + 1) s.blocks ≡ last
        → i < cond closed (128 * (s.blocks - 1) + s.last_length) (128 * s.blocks + s.waiting)
        → i % 128 < cond (closed && last) s.last_length 128
    go true true is h = omega (arith, eqb-true (i / 128 + 1) s.blocks is)
    go true false is h = omega arith
    go false last is h = omega arith
