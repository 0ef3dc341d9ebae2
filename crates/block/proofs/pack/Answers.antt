-- Each write moves the run on by a value. None is refused, since the whole block has room, and the flush ends the stream.
use Rattle.std.proofs.Common.{arith}
use Rattle.block.proofs.Packing.{packing_starts, place_within, packing_goes_on, packing_written, packing_flushed, packing_ends}
use Rattle.block.proofs.pack.Goals as goal

pub loop-value-init : goal.loop-value-init
loop-value-init c =
    packing_starts _ _ _ _ c.requires.width_bound.1 c.requires.width_bound.0 c.requires.width_in_bounds c.new-packer.ensures

pub unwrap-written-requires : goal.unwrap-written-requires
unwrap-written-requires c =
    packing_written _ _ _ _ c.requires.width_bound.1 c.requires.width_bound.0 c.requires.width_in_bounds c.loop-value.invariant
    c.loop-value-test.true _ _ c.write.ensures

pub overflow_add-at : goal.overflow_add-at
overflow_add-at c =
    let next =
    packing_goes_on _ _ _ _ c.requires.width_bound.1 c.requires.width_bound.0 c.requires.width_in_bounds c.loop-value.invariant
    c.loop-value-test.true _ _ c.write.ensures c.write.auto.output _ _ c.unwrap-written.ensures in
    omega
    (arith, place_within _ _ _ _ c.requires.width_bound.1 c.requires.width_bound.0 c.requires.width_in_bounds next, next.same)

pub loop-value-preserved : goal.loop-value-preserved
loop-value-preserved c =
    packing_goes_on _ _ _ _ c.requires.width_bound.1 c.requires.width_bound.0 c.requires.width_in_bounds c.loop-value.invariant
    c.loop-value-test.true _ _ c.write.ensures c.write.auto.output _ _ c.unwrap-written.ensures

pub returns : goal.returns
returns c =
    packing_ends _ _ _ _ c.requires.width_bound.1 c.requires.width_bound.0 c.requires.width_in_bounds c.loop-value.invariant
    c.loop-value-test.false _ _ c.flush.ensures

pub unwrap-requires : goal.unwrap-requires
unwrap-requires c =
    packing_flushed _ _ _ _ c.requires.width_bound.1 c.requires.width_bound.0 c.requires.width_in_bounds c.loop-value.invariant
    c.loop-value-test.false _ _ c.flush.ensures
