-- A turn adds the base to one value more.
use Rattle.std.proofs.Common.{get_or, set, ap, ◌∙◌}
use Rattle.block.specs.Block.{above_base}
use Rattle.block.proofs.Reading.{change_next}
use Rattle.block.proofs.raise.Goals as goal

pub loop-value-preserved : goal.loop-value-preserved
loop-value-preserved c =
    let base = c.args.base in
    let i = c.loop-value.value-index in
    ap (λ l. set l i (above_base base (get_or l i 0))) c.loop-value.invariant ∙ change_next (above_base base) i c.args.values.now
