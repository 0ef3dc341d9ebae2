-- The filter leaves the batch's matching ids at its front, and they are copied to the start of the positions.
use Rattle.std.proofs.Common.{◌≡◌, ℕ, ◌+◌, ◌^◌, ◌≤◌, List, length, drop, sym, ap₂, ◌∙◌, arith, length-take-le, ◌++◌}
use Rattle.bit_rule.specs.Search.{matching_ids}
use Rattle.bit_rule.proofs.Search.{matching_le, paste_first}
use Rattle.filter_vec.specs.Filter.{filtered, filter_of}
use Rattle.bitunpacker.proofs.Narrow.{Left, filter_left, front}
use Rattle.bitunpacker.proofs.search.keep.Goals as goal

-- the filter finds no more ids than there are values
few : (lo hi id : ℕ) (vals : List ℕ) (r : ℕ) (out : List ℕ) → filtered r out ≡ filter_of lo hi id vals → id + length vals ≤ 2 ^ 32 → r ≤ length vals
few lo hi id vals r out is room = omega (arith, (filter_left lo hi id vals r out is room).count, matching_le lo hi id vals)

pub slice_bounds-copy_from_slice-end : goal.slice_bounds-copy_from_slice-end
slice_bounds-copy_from_slice-end c =
    omega (arith, few _ _ _ _ _ _ c.filter_vec_in_place-count.ensures c.requires.batch_bound, c.requires.batch_in_bounds)

pub slice_bounds-copy_from_slice-end-2 : goal.slice_bounds-copy_from_slice-end-2
slice_bounds-copy_from_slice-end-2 c =
    sym
    (length-take-le c.filter_vec_in_place-count.result c.args.positions.now
    (omega (arith, few _ _ _ _ _ _ c.filter_vec_in_place-count.ensures c.requires.batch_bound, c.requires.batch_in_bounds)))

pub slice_bounds-copy_from_slice-end-3 : goal.slice_bounds-copy_from_slice-end-3
slice_bounds-copy_from_slice-end-3 c =
    omega (arith, few _ _ _ _ _ _ c.filter_vec_in_place-count.ensures c.requires.batch_bound, c.filter_vec_in_place-count.auto.output)

pub slice_bounds-copy_from_slice-end-4 : goal.slice_bounds-copy_from_slice-end-4
slice_bounds-copy_from_slice-end-4 c =
    sym
    (length-take-le c.filter_vec_in_place-count.result c.filter_vec_in_place-count.new.output
    (omega (arith, few _ _ _ _ _ _ c.filter_vec_in_place-count.ensures c.requires.batch_bound, c.filter_vec_in_place-count.auto.output)))

pub copy_from_slice-requires : goal.copy_from_slice-requires
copy_from_slice-requires c =
    let some = few _ _ _ _ _ _ c.filter_vec_in_place-count.ensures c.requires.batch_bound in
    length-take-le c.filter_vec_in_place-count.result c.args.positions.now (omega (arith, some, c.requires.batch_in_bounds))
    ∙ sym (length-take-le c.filter_vec_in_place-count.result c.filter_vec_in_place-count.new.output (omega (arith, some, c.filter_vec_in_place-count.auto.output)))

pub returns : goal.returns
returns c =
    let ids = matching_ids c.args.interval.lo c.args.interval.hi c.args.id c.args.batch.now in
    let left : Left ids c.args.batch.now c.filter_vec_in_place-count.result c.filter_vec_in_place-count.new.output =
    filter_left _ _ _ _ _ _ c.filter_vec_in_place-count.ensures c.requires.batch_bound in
    record {
      count = omega (arith, left.count);
      pasted = ap₂ (λ l k. l ++ drop k c.args.positions.now) (c.copy_from_slice.ensures.after ∙ front _ _ _ _ left) left.count ∙ sym (paste_first ids c.args.positions.now);
    }
