-- Packing words at one width is packing a block's values with 0 as the base: where a run of writes stands, word by word. That no word is too
-- wide says that the values fit, and the whole list has room.
use Rattle.std.specs.Prelude.{Result, IsOk}
use Rattle.std.specs.Int.{from_le_bytes, w64}
use Rattle.std.proofs.Common.{◌≡◌, ℕ, ◌+◌, ◌-◌, ◌*◌, ◌≤◌, ◌<◌, false, List, length, get_or, sym, ap, ◌∙◌, subst, arith}
use borrow.Rule.Slice.PartMut.{put_mid}
use Rattle.refusal.specs.declared.Refusal.{Refusal}
use Rattle.bit_rule.specs.Bytes.{bytes_for}
use Rattle.bit_rule.specs.Stream.{Fit, of_width}
use Rattle.bit_rule.proofs.Parts.{rest_from}
use Rattle.bitpacker.specs.declared.BitPacker.{BitPacker}
use Rattle.bitpacker.specs.declared.Written.{Written}
use Rattle.bitpacker.specs.Packer.{outcome, fresh, write_of, flush_of, emitting}
use Rattle.bitpacker.proofs.Run.{packed}
use Rattle.block.specs.Block.{bytes_of_block}
use Rattle.block.proofs.Packing.{Packing, pieces, packing_starts, place_within, packing_goes_on, packing_written, packing_flushed, packing_ends}
use Rattle.stumpvessel.specs.Host.{any_too_wide}
use Rattle.stumpvessel.proofs.Words.{numbers_of, word_at, length-numbers_of, differences_zero, none_wide_fit}

-- the run after i words
abbrev pub WordsPacked : List (List ℕ) → ℕ → List ℕ → ℕ → BitPacker → ℕ → List ℕ → Type 0
WordsPacked words w out₀ i packer at out = Packing 0 w (numbers_of words) out₀ i packer at out

module _ (words : List (List ℕ)) (w : ℕ) (out₀ : List ℕ)
    (narrow : (w ≤ 64) × (any_too_wide w (numbers_of words) ≡ false)) (enough : bytes_for (length words * w) ≤ length out₀) where
  fit : Fit (pieces 0 w (numbers_of words))
  fit = subst (λ l. Fit (of_width w l)) (sym (differences_zero (numbers_of words))) (none_wide_fit w (numbers_of words) narrow.1)

  room : bytes_of_block (length (numbers_of words)) w ≤ length out₀
  room = subst (λ n. bytes_of_block n w ≤ length out₀) (sym (length-numbers_of words)) enough

  pub words_start : {packer : BitPacker} → packer ≡ fresh → WordsPacked words w out₀ 0 packer 0 out₀
  words_start new = packing_starts 0 w (numbers_of words) out₀ fit narrow.0 room new

  module _ {i : ℕ} {packer : BitPacker} {at : ℕ} {out : List ℕ} (here : WordsPacked words w out₀ i packer at out) where
    pub words_within : at ≤ length out
    words_within = place_within 0 w (numbers_of words) out₀ fit narrow.0 room here

    module _ (more : i < length words) (none : List ℕ) (word : ℕ) (is : word ≡ from_le_bytes w64 (get_or words i none))
        (r : Result Written Refusal) (ys : List ℕ) (ensured : outcome r ys ≡ write_of packer word w (rest_from at out)) where
      more_numbers : i < length (numbers_of words)
      more_numbers = omega (arith, length-numbers_of words)

      wrote : outcome r ys ≡ write_of packer (get_or (numbers_of words) i 0 - 0) w (rest_from at out)
      wrote = ensured ∙ ap (λ v. write_of packer v w (rest_from at out)) (is ∙ sym (word_at words i none more))

      pub word_written : IsOk r
      word_written = packing_written 0 w (numbers_of words) out₀ fit narrow.0 room here more_numbers r ys wrote

      pub words_go_on : length ys ≡ length (rest_from at out) → (next : BitPacker) (n : ℕ) → r ≡ emitting next n
          → WordsPacked words w out₀ (i + 1) next (at + n) (put_mid at (length out - at) out ys)
      words_go_on kept next n emitted =
          packing_goes_on 0 w (numbers_of words) out₀ fit narrow.0 room here more_numbers r ys wrote kept next n emitted

    pub words_flushed : length words ≤ i → (r : Result Written Refusal) (ys : List ℕ) → outcome r ys ≡ flush_of packer (rest_from at out) → IsOk r
    words_flushed all r ys ensured =
        packing_flushed 0 w (numbers_of words) out₀ fit narrow.0 room here (omega (arith, length-numbers_of words)) r ys ensured

    pub words_end : length words ≤ i → (r : Result Written Refusal) (ys : List ℕ) → outcome r ys ≡ flush_of packer (rest_from at out)
        → put_mid at (length out - at) out ys ≡ packed (of_width w (numbers_of words)) out₀
    words_end all r ys ensured =
        packing_ends 0 w (numbers_of words) out₀ fit narrow.0 room here (omega (arith, length-numbers_of words)) r ys ensured
        ∙ ap (λ l. packed (of_width w l) out₀) (differences_zero (numbers_of words))
