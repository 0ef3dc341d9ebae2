-- At each turn the base is added to the values before this one, and the others are as they were.
use Rattle.std.proofs.Common.{◌≡◌}
use Rattle.block.specs.Block.{above_base}
use Rattle.block.proofs.Reading.{first_changed}
use Rattle.block.proofs.raise.Given as goal

abbrev pub invariant-loop-value : goal.invariant-loop-value
invariant-loop-value l = l.values ≡ first_changed (above_base l.base) l.value-index l.initial.values
