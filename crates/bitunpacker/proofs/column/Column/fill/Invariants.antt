-- The invariant is `Filling`: so many values stand in the output, and the next starts at this bit of this byte.
use Rattle.bitunpacker.proofs.Laws.{Filling}
use Rattle.bitunpacker.proofs.column.Column.fill.Given as goal

abbrev pub invariant-loop-slot : goal.invariant-loop-slot
invariant-loop-slot g l = Filling g.T.Element.holding l.width l.start l.bytes l.fn.output l.output l.at l.shift l.slot-index
