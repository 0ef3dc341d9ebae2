-- The invariant is `Packing`: the packer, the place and the output are those of a run over the values before this one.
use Rattle.block.proofs.Packing.{Packing}
use Rattle.block.proofs.pack.Given as goal

abbrev pub invariant-loop-value : goal.invariant-loop-value
invariant-loop-value l = Packing l.base l.width l.values l.initial.output l.value-index l.packer l.at l.output
