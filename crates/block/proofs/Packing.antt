-- Packing a block value by value: where a run of writes stands after the first i values (`Packing`), and that one more value moves it on.
use Rattle.std.specs.Prelude.{Result, IsOk}
use Rattle.std.proofs.Common.{◌≡◌, ℕ, ◌+◌, ◌-◌, ◌*◌, ◌<◌, ◌≤◌, List, [], ◌∷◌, ◌++◌, length, get_or, take, drop, sym, refl, ap, ◌∙◌, subst, ap₂, zero-le, le_refl, mul-le-mul_right, add-one, arith, take-append-drop, length-take-le, take_all, take-suc}
use lib.ListN.{length-map}
use lib.Seq.{take-length}
use borrow.Rule.Slice.PartMut.{put_mid, same_len_mid}
use Rattle.bit_rule.specs.Bytes.{bytes_of, bytes_for}
use Rattle.bit_rule.specs.Stream.{Piece, total_bits, Fit, piece_at, of_width}
use Rattle.bit_rule.proofs.Stream.{total_bits-of_width, total_bits-append}
use Rattle.bit_rule.proofs.Place.{fit_append}
use Rattle.bit_rule.proofs.Parts.{rest_from, rest_from_is, put_rest}
use Rattle.refusal.specs.declared.Refusal.{Refusal}
use Rattle.bitpacker.specs.declared.BitPacker.{BitPacker}
use Rattle.bitpacker.specs.declared.Written.{Written}
use Rattle.bitpacker.specs.Packer.{outcome, fresh, write_of, flush_of, emitting}
use Rattle.bitpacker.proofs.Run.{emitted_of, held_of, so_far, packed, ◌then◌, held_nil, write_more, part_then, flush_all, part_packed}
use Rattle.block.specs.Block.{differences, bytes_of_block}

-- the pieces that a block's values are packed as
abbrev pub pieces : ℕ → ℕ → List ℕ → List Piece
pieces base w vs = of_width w (differences base vs)

pieces_append : (base w : ℕ) (us vs : List ℕ) → pieces base w (us ++ vs) ≡ pieces base w us ++ pieces base w vs
pieces_append base w [] vs = refl
pieces_append base w (u ∷ us) vs = ap (λ l. piece_at w (u - base) ∷ l) (pieces_append base w us vs)

pub pieces_next : (base w : ℕ) (vs : List ℕ) (i : ℕ) → i < length vs
    → pieces base w (take (i + 1) vs) ≡ pieces base w (take i vs) then piece_at w (get_or vs i 0 - base)
pieces_next base w vs i within =
    ap (pieces base w) (ap (λ k. take k vs) (add-one i) ∙ take-suc vs i 0 within) ∙ pieces_append base w (take i vs) (get_or vs i 0 ∷ [])

pub fit_take : (base w : ℕ) (vs : List ℕ) (i : ℕ) → Fit (pieces base w vs) → Fit (pieces base w (take i vs))
fit_take base w vs i fit =
    (fit_append (pieces base w (take i vs)) (pieces base w (drop i vs))
    (subst Fit (ap (pieces base w) (sym (take-append-drop i vs)) ∙ pieces_append base w (take i vs) (drop i vs)) fit)).0

bits_take : (base w : ℕ) (vs : List ℕ) (i : ℕ) → i ≤ length vs → total_bits (pieces base w (take i vs)) ≡ i * w
bits_take base w vs i within =
    total_bits-of_width w (differences base (take i vs))
    ∙ ap (λ n. n * w) (length-map (take i vs) (λ v. v - base) ∙ length-take-le i vs within)

-- what the first i values complete has room where the whole block has
pub emitted_room : (base w : ℕ) (vs : List ℕ) (i room : ℕ) → i ≤ length vs → bytes_of_block (length vs) w ≤ room → emitted_of (pieces base w (take i vs)) ≤ room
emitted_room base w vs i room within enough =
    let fewer : i * w ≤ length vs * w = mul-le-mul_right w within in
    omega (arith, bits_take base w vs i within)

-- After i values: the packer holds what they leave, so many bytes were emitted, and the output begins with them.
pub record Packing (base w : ℕ) (vs out₀ : List ℕ) (i : ℕ) (packer : BitPacker) (at : ℕ) (out : List ℕ) : Type 0 where
  pub within : i ≤ length vs
  pub holds : packer ≡ held_of (pieces base w (take i vs))
  pub place : at ≡ emitted_of (pieces base w (take i vs))
  pub output_so_far : out ≡ so_far (pieces base w (take i vs)) out₀
  pub same : length out ≡ length out₀

module _ (base w : ℕ) (vs out₀ : List ℕ) (fit : Fit (pieces base w vs)) (narrow : w ≤ 64) (room : bytes_of_block (length vs) w ≤ length out₀) where
  pub packing_starts : {packer : BitPacker} → packer ≡ fresh → Packing base w vs out₀ 0 packer 0 out₀
  unfolding total_bits bytes_of
  packing_starts new = record { within = zero-le; holds = new ∙ sym held_nil; place = refl; output_so_far = refl; same = refl }

  module _ {i : ℕ} {packer : BitPacker} {at : ℕ} {out : List ℕ} (here : Packing base w vs out₀ i packer at out) where
    abbrev ps : List Piece
    ps = pieces base w (take i vs)

    pub place_within : at ≤ length out
    place_within = omega (arith, here.place, here.same, emitted_room base w vs i (length out₀) here.within room)

    -- the call's packer and part, as the laws of a run have them
    part : rest_from at out ≡ drop (emitted_of ps) (so_far ps out₀)
    part = rest_from_is at out ∙ ap₂ drop here.place here.output_so_far

    front : (ys : List ℕ) → put_mid at (length out - at) out ys ≡ take (emitted_of ps) (so_far ps out₀) ++ ys
    front ys = put_rest at out ys place_within ∙ ap₂ (λ a l. take a l ++ ys) here.place here.output_so_far

    module _ (more : i < length vs) where
      abbrev x : Piece
      x = piece_at w (get_or vs i 0 - base)

      next_pieces : pieces base w (take (i + 1) vs) ≡ ps then x
      next_pieces = pieces_next base w vs i more

      next_room : emitted_of (ps then x) ≤ length out₀
      next_room = subst (λ l. emitted_of l ≤ length out₀) next_pieces (emitted_room base w vs (i + 1) (length out₀) (omega arith) room)

      -- what the write answers and leaves
      pub write_is : (r : Result Written Refusal) (ys : List ℕ) → outcome r ys ≡ write_of packer (get_or vs i 0 - base) w (rest_from at out)
          → outcome r ys ≡ outcome (emitting (held_of (ps then x)) (emitted_of (ps then x) - emitted_of ps)) (drop (emitted_of ps) (so_far (ps then x) out₀))
      write_is r ys ensured =
          ensured
          ∙ ap₂ (λ p l. write_of p (get_or vs i 0 - base) w l) here.holds part
          ∙ write_more ps x out₀ (subst Fit next_pieces (fit_take base w vs (i + 1) fit)) narrow next_room

      pub packing_goes_on : (r : Result Written Refusal) (ys : List ℕ) → outcome r ys ≡ write_of packer (get_or vs i 0 - base) w (rest_from at out)
          → length ys ≡ length (rest_from at out) → (next : BitPacker) (n : ℕ) → r ≡ emitting next n
          → Packing base w vs out₀ (i + 1) next (at + n) (put_mid at (length out - at) out ys)
      packing_goes_on r ys ensured kept next n emitted =
          let is = write_is r ys ensured in
          let answer : emitting next n ≡ emitting (held_of (ps then x)) (emitted_of (ps then x) - emitted_of ps) = sym emitted ∙ ap (λ o. o.answer) is in
          let grows : emitted_of ps ≤ emitted_of (ps then x) = omega (arith, total_bits-append ps (x ∷ [])) in
          let both :
          ◌≡◌ {A = Written} (record { packer = next; emitted = n }) (record { packer = held_of (ps then x); emitted = emitted_of (ps then x) - emitted_of ps }) = cc in
          let held : next ≡ held_of (ps then x) = ap (λ w. w.packer) both in
          let count : n ≡ emitted_of (ps then x) - emitted_of ps = ap (λ w. w.emitted) both in
          record {
            within = omega arith;
            holds = held ∙ ap held_of (sym next_pieces);
            place = omega (arith, here.place, count, grows) ∙ ap emitted_of (sym next_pieces);
            output_so_far =
                front ys
                ∙ ap (λ l. take (emitted_of ps) (so_far ps out₀) ++ l) (ap (λ o. o.output) is)
                ∙ part_then ps x out₀
                ∙ ap (λ l. so_far l out₀) (sym next_pieces);
            same = same_len_mid at (length out - at) out ys kept ∙ here.same;
          }

      -- it is done
      pub packing_written : (r : Result Written Refusal) (ys : List ℕ) → outcome r ys ≡ write_of packer (get_or vs i 0 - base) w (rest_from at out) → IsOk r
      packing_written r ys ensured = subst IsOk (sym (ap (λ o. o.answer) (write_is r ys ensured))) refl

    -- past the last value a flush ends the stream
    flush_is : length vs ≤ i → (r : Result Written Refusal) (ys : List ℕ) → outcome r ys ≡ flush_of packer (rest_from at out)
        → outcome r ys ≡ outcome (emitting fresh (bytes_for (total_bits ps) - emitted_of ps)) (drop (emitted_of ps) (packed ps out₀))
    flush_is all r ys ensured =
        let whole : take i vs ≡ vs = take_all i vs all in
        let enough : bytes_for (total_bits ps) ≤ length out₀ =
        subst (λ b. bytes_for b ≤ length out₀)
        (sym (ap (λ l. total_bits (pieces base w l)) whole ∙ ap (λ l. total_bits (pieces base w l)) (sym (take-length vs)) ∙ bits_take base w vs (length vs) (le_refl (length vs)))) room in
        ensured ∙ ap₂ flush_of here.holds part ∙ flush_all ps out₀ (fit_take base w vs i fit) enough

    pub packing_flushed : length vs ≤ i → (r : Result Written Refusal) (ys : List ℕ) → outcome r ys ≡ flush_of packer (rest_from at out) → IsOk r
    packing_flushed all r ys ensured = subst IsOk (sym (ap (λ o. o.answer) (flush_is all r ys ensured))) refl

    pub packing_ends : length vs ≤ i → (r : Result Written Refusal) (ys : List ℕ) → outcome r ys ≡ flush_of packer (rest_from at out)
        → put_mid at (length out - at) out ys ≡ packed (pieces base w vs) out₀
    packing_ends all r ys ensured =
        front ys
        ∙ ap (λ l. take (emitted_of ps) (so_far ps out₀) ++ l) (ap (λ o. o.output) (flush_is all r ys ensured))
        ∙ part_packed ps out₀ (fit_take base w vs i fit)
        ∙ ap (λ l. packed (pieces base w l) out₀) (take_all i vs all)
