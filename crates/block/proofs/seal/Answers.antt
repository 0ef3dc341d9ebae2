-- The bounds are those that `minmax` answers, or 0; the width is the block's and so is the size. `pack` and `clear_eight` then leave the block's
-- bytes and the eight zeros (`seal_answer`).
use Rattle.std.proofs.Common.{length, sym, subst, arith}
use Rattle.bit_rule.specs.Stream.{Fit, of_width}
use Rattle.bit_rule.proofs.Bytes.{column_half}
use Rattle.block.specs.Block.{differences}
use Rattle.block.proofs.SealingLaws.{extent_of_either, width_narrow, fits_width, seal_refused, seal_answer}
use Rattle.block.proofs.seal.Goals as goal

pub overflow_sub-highest : goal.overflow_sub-highest
overflow_sub-highest c =
    (extent_of_either c.args.values.now c.minmax.ensures c.unwrap_or-lowest.ensures).order

pub overflow_add-size : goal.overflow_add-size
overflow_add-size c =
    let vs = c.args.values.now in
    let extent = extent_of_either vs c.minmax.ensures c.unwrap_or-lowest.ensures in
    let narrow = width_narrow _ _ vs extent c.compute_num_bits-num_bits.ensures in
    omega (arith, c.column_bytes-size.ensures.whole (omega arith, narrow), column_half (length vs) c.compute_num_bits-num_bits.result (omega arith) narrow)

pub returns-then-bytes-size : goal.returns-then-bytes-size
returns-then-bytes-size c =
    let vs = c.args.values.now in
    let extent = extent_of_either vs c.minmax.ensures c.unwrap_or-lowest.ensures in
    let width = c.compute_num_bits-num_bits.ensures in
    seal_refused _ _ vs c.args.bytes.now extent _ _ width (c.column_bytes-size.ensures.whole (omega arith, width_narrow _ _ vs extent width))
    c.if-bytes-size.true

pub pack-requires-clause-width_bound : goal.pack-requires-clause-width_bound
pack-requires-clause-width_bound c =
    let vs = c.args.values.now in
    let extent = extent_of_either vs c.minmax.ensures c.unwrap_or-lowest.ensures in
    let width = c.compute_num_bits-num_bits.ensures in (
      width_narrow _ _ vs extent width,
      subst (λ w. Fit (of_width w (differences c.unwrap_or-lowest.result.0 vs))) (sym width) (fits_width _ _ vs extent (omega arith)),
    )

pub pack-requires-clause-by_index : goal.pack-requires-clause-by_index
pack-requires-clause-by_index c =
    (extent_of_either c.args.values.now c.minmax.ensures c.unwrap_or-lowest.ensures).under

pub pack-requires-clause-width_in_bounds : goal.pack-requires-clause-width_in_bounds
pack-requires-clause-width_in_bounds c =
    let vs = c.args.values.now in
    let extent = extent_of_either vs c.minmax.ensures c.unwrap_or-lowest.ensures in
    omega (arith, c.column_bytes-size.ensures.whole (omega arith, width_narrow _ _ vs extent c.compute_num_bits-num_bits.ensures))

pub returns : goal.returns
returns c =
    let vs = c.args.values.now in
    let extent = extent_of_either vs c.minmax.ensures c.unwrap_or-lowest.ensures in
    let width = c.compute_num_bits-num_bits.ensures in
    seal_answer _ _ vs c.args.bytes.now extent _ _ width (c.column_bytes-size.ensures.whole (omega arith, width_narrow _ _ vs extent width))
    c.if-bytes-size.false _ _ c.pack.ensures c.clear_eight.ensures
