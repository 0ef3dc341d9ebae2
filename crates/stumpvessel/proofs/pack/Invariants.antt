-- The packer, the place and the output are those of a run over the words before this one.
use Rattle.stumpvessel.proofs.Packing.{WordsPacked}
use Rattle.stumpvessel.proofs.pack.Given as goal

abbrev pub invariant-loop-word : goal.invariant-loop-word
invariant-loop-word l = WordsPacked l.words l.width l.initial.output l.word-index l.packer l.at l.output
