-- Sealing a block: its differences fit the width of its extent, the size is that of its packed bytes, and the bytes with eight zeros after
-- them stand at the start of the part.
use Rattle.std.specs.Prelude.{Err, Option, Some, None, unwrap_or}
use Rattle.std.proofs.Common.{◌≡◌, ℕ, suc, ◌+◌, ◌-◌, ◌*◌, ◌^◌, ◌<◌, ◌≤◌, cond, ltb, List, [], ◌∷◌, ◌++◌, length, get_or, drop, set, sym, refl, ap, ◌∙◌, subst, ap₂, append_assoc, zero-le, not-suc-le-zero, lt_of_le_of_lt, arith, length-append, length-drop, drop-drop, take_at, drop_at, le-ltb, lt-ltb, le-leb}
use borrow.Author.Tests.{lt-leb}
use lib.ListN.{length-map}
use lib.Seq.{sets-eq}
use borrow.Rule.Slice.PartMut.{put_mid}
use Rattle.bit_rule.specs.Bytes.{bytes_for}
use Rattle.bit_rule.specs.Stream.{Piece, total_bits, stream_bytes, Fit, of_width}
use Rattle.bit_rule.specs.Search.{at_start}
use Rattle.bit_rule.specs.Width.{width_of}
use Rattle.bit_rule.proofs.Stream.{total_bits-of_width, length-stream_bytes}
use Rattle.bit_rule.proofs.Parts.{rest_from, rest_from_is, put_rest}
use Rattle.bit_rule.proofs.Width.{legal_le, width_of_legal, width_of_bound}
use Rattle.num_bits.specs.MinMax.{lowest, highest, first_under, minmax_of, minmax_u64}
use Rattle.num_bits.specs.Ranked.{every}
use Rattle.num_bits.proofs.Numbers.{minmax_at_u64}
use Rattle.num_bits.proofs.Bounds.{minmax_extremes, minmax_bounds, minmax_nothing, lowest_le_highest}
use Rattle.bitpacker.proofs.Run.{packed}
use Rattle.refusal.specs.declared.Refusal.TheVariants.{NoRoom}
use Rattle.block.specs.Block.{or_zero, base_of, block_width, differences, bytes_of_block, block_size, block_bytes, eight_zeros}
use Rattle.block.specs.Calls.{outcome, cleared_of, Extent, seal_of, sealed_as}

-- ---- the lowest and the highest

pub extent_of : (vs : List ℕ) (low high : ℕ) → minmax_u64 vs ≡ Some (low, high) → Extent low high vs
unfolding base_of
extent_of vs low high is =
    let extremes = minmax_extremes vs low high is in
    let bounds = minmax_bounds vs low high is in
    record {
      lowest = sym (ap or_zero extremes.lowest_is);
      highest = sym (ap or_zero extremes.highest_is);
      order = lowest_le_highest vs low high bounds;
      under = bounds.lowest_bound;
      over = bounds.highest_bound;
    }

pub extent_of_none : (vs : List ℕ) → minmax_u64 vs ≡ None → Extent 0 0 vs
unfolding base_of lowest highest first_under
extent_of_none [] is =
    record {
      lowest = refl;
      highest = refl;
      order = zero-le;
      under = λ i within. zero-le;
      over = λ i within. absurd (not-suc-le-zero within);
    }
extent_of_none (v ∷ vs) is = absurd (let none = minmax_nothing (v ∷ vs) is in omega arith)

-- of what `minmax` answers; where that is none, both count as 0
pub extent_of_either : (vs : List ℕ) {answer : Option (ℕ × ℕ)} → answer ≡ minmax_of ltb every vs → {bounds : ℕ × ℕ} → bounds ≡ unwrap_or answer (0, 0)
    → Extent bounds.0 bounds.1 vs
extent_of_either vs {answer} is {bounds} either = by_answer answer (sym (minmax_at_u64 vs) ∙ sym is) either
  where
    by_answer : (a : Option (ℕ × ℕ)) → minmax_u64 vs ≡ a → bounds ≡ unwrap_or a (0, 0) → Extent bounds.0 bounds.1 vs
    by_answer None none these = subst (λ b. Extent b.0 b.1 vs) (sym these) (extent_of_none vs none)
    by_answer (Some (low, high)) some these = subst (λ b. Extent b.0 b.1 vs) (sym these) (extent_of vs low high some)

-- ---- the width

module _ (low high : ℕ) (vs : List ℕ) (extent : Extent low high vs) where
  pub width_is : width_of (high - low) ≡ block_width vs
  unfolding block_width
  width_is = ap width_of (ap₂ (λ h l. h - l) extent.highest extent.lowest)

  pub width_narrow : {w : ℕ} → w ≡ width_of (high - low) → w ≤ 64
  width_narrow is = subst (λ w. w ≤ 64) (sym is) (legal_le (width_of (high - low)) (width_of_legal (high - low)))

fit_all : (w low : ℕ) (vs : List ℕ) → ((i : ℕ) → i < length vs → get_or vs i 0 - low < 2 ^ w) → Fit (of_width w (differences low vs))
fit_all w low [] h = tt
fit_all w low (v ∷ vs) h = (h 0 (omega arith), fit_all w low vs (λ i within. h (suc i) (omega arith)))

pub fits_width : (low high : ℕ) (vs : List ℕ) → Extent low high vs → high < 2 ^ 64 → Fit (of_width (width_of (high - low)) (differences low vs))
fits_width low high vs extent word =
    fit_all (width_of (high - low)) low vs
    (λ i within.
    let over = extent.over i within in
    let spread : get_or vs i 0 - low ≤ high - low = omega arith in
    lt_of_le_of_lt spread (width_of_bound (high - low) (omega arith)))

-- ---- the bytes

-- where there is room, what is put there is eight zeros in front of what stood behind them
pub eight_zeros_put : (bytes start : List ℕ) → 8 ≤ length bytes → start ≡ eight_zeros → start ++ drop 8 bytes ≡ cleared_of bytes
unfolding cleared_of
eight_zeros_put bytes start room is = simp (le-leb 8 (length bytes) room) (ap (λ l. l ++ drop 8 bytes) is)

-- where there is room, eight stores are eight zeros in front of what stood behind them
pub eight_stores : (bytes : List ℕ) → 8 ≤ length bytes
    → set (set (set (set (set (set (set (set bytes 0 0) 1 0) 2 0) 3 0) 4 0) 5 0) 6 0) 7 0 ≡ cleared_of bytes
unfolding cleared_of
eight_stores bytes room = simp (le-leb 8 (length bytes) room) (sets-eq eight_zeros bytes 0 room)

pub left_alone : (bytes : List ℕ) → length bytes < 8 → bytes ≡ cleared_of bytes
unfolding cleared_of
left_alone bytes short = simp (lt-leb 8 (length bytes) short)

pub sealed_bytes : (ps : List Piece) (bytes : List ℕ) (size : ℕ) → size ≡ bytes_for (total_bits ps) → size + 8 ≤ length bytes
    → put_mid size (length (packed ps bytes) - size) (packed ps bytes) (cleared_of (rest_from size (packed ps bytes)))
    ≡ at_start (stream_bytes ps ++ eight_zeros) bytes
unfolding cleared_of
sealed_bytes ps bytes size is room =
    let stream = stream_bytes ps in
    let rest = drop size bytes in
    let long : length stream ≡ size = length-stream_bytes ps ∙ sym is in
    let whole : packed ps bytes ≡ stream ++ rest = ap (λ n. stream ++ drop n bytes) (sym is) in
    let rest-long : length rest ≡ length bytes - size = length-drop size bytes in
    let same : length (stream ++ rest) ≡ length bytes = length-append stream rest ∙ omega arith in
    let part : rest_from size (stream ++ rest) ≡ rest = rest_from_is size (stream ++ rest) ∙ drop_at stream rest size long in
    let cleared : cleared_of rest ≡ eight_zeros ++ drop 8 rest =
    ap (λ t. cond t (at_start eight_zeros rest) rest) (le-leb 8 (length rest) (omega arith)) in
    let after : drop 8 rest ≡ drop (length (stream ++ eight_zeros)) bytes =
    drop-drop 8 size bytes ∙ ap (λ n. drop n bytes) (sym (length-append stream eight_zeros ∙ ap (λ n. n + 8) long)) in
    ap (λ l. put_mid size (length l - size) l (cleared_of (rest_from size l))) whole
    ∙ put_rest size (stream ++ rest) (cleared_of (rest_from size (stream ++ rest))) (omega arith)
    ∙ ap₂ (λ l r. l ++ r) (take_at stream rest size long) (ap cleared_of part ∙ cleared)
    ∙ sym (append_assoc stream eight_zeros (drop 8 rest))
    ∙ ap (λ l. (stream ++ eight_zeros) ++ l) after

-- ---- the answer

module _ (low high : ℕ) (vs bytes : List ℕ) (extent : Extent low high vs) (w size : ℕ) (width : w ≡ width_of (high - low)) (sized : size ≡ bytes_of_block (length vs) w) where
  pub size_is : size ≡ block_size vs
  unfolding block_size
  size_is = sized ∙ ap (bytes_of_block (length vs)) (width ∙ width_is low high vs extent)

  pub seal_refused : length bytes < size + 8 → outcome (Err NoRoom) bytes ≡ seal_of vs bytes
  unfolding seal_of
  seal_refused short = simp (lt-ltb (length bytes) (block_size vs + 8) (subst (λ n. length bytes < n + 8) size_is short))

  pub seal_answer : size + 8 ≤ length bytes → (middle last : List ℕ) → middle ≡ packed (of_width w (differences low vs)) bytes
      → last ≡ cleared_of (rest_from size middle)
      → outcome (sealed_as low w size) (put_mid size (length middle - size) middle last) ≡ seal_of vs bytes
  unfolding seal_of block_bytes
  seal_answer room middle last packed-is cleared-is =
      let ps = of_width w (differences low vs) in
      let bits : total_bits ps ≡ length vs * w =
      total_bits-of_width w (differences low vs) ∙ ap (λ n. n * w) (length-map vs (λ v. v - low)) in
      let bytes_are : stream_bytes ps ≡ block_bytes vs =
      ap₂ (λ v b. stream_bytes (of_width v (differences b vs))) (width ∙ width_is low high vs extent) extent.lowest in
      ap (λ l. outcome (sealed_as low w size) (put_mid size (length middle - size) middle l)) cleared-is
      ∙ ap (λ m. outcome (sealed_as low w size) (put_mid size (length m - size) m (cleared_of (rest_from size m)))) packed-is
      ∙ ap (outcome (sealed_as low w size)) (sealed_bytes ps bytes size (sized ∙ ap bytes_for (sym bits)) room)
      ∙ ap₂ (λ b l. outcome (sealed_as b w size) (at_start (l ++ eight_zeros) bytes)) extent.lowest bytes_are
      ∙ ap₂ (λ v n. outcome (sealed_as (base_of vs) v n) (at_start (block_bytes vs ++ eight_zeros) bytes)) (width ∙ width_is low high vs extent) size_is
      ∙ sym (simp (le-ltb (length bytes) (block_size vs + 8) (subst (λ n. n + 8 ≤ length bytes) size_is room)))
