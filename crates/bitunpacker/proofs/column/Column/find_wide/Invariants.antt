-- The invariant is `StandsAt`: the search stands at an id, and the ids of the matching values before that one are found.
use Rattle.bitunpacker.proofs.Wide.{StandsAt}
use Rattle.bitunpacker.proofs.column.Column.find_wide.Given as goal

abbrev pub invariant-loop-id : goal.invariant-loop-id
invariant-loop-id l = StandsAt l.self.unpacker.num_bits l.interval.lo l.interval.hi l.start l.end l.self.bytes.now l.fn.positions l.id l.found l.positions
