-- The invariant is `Searched`: the ids of the matching values among the first i are found. A turn looks at one value more.
use Rattle.std.proofs.Common.{◌≤◌, take}
use Rattle.bit_rule.proofs.Search.{Searched}
use Rattle.blocked_bitpacker.proofs.reading.keep.Given as goal

abbrev pub invariant-loop-i : goal.invariant-loop-i
invariant-loop-i l = (l.found ≤ l.i) × Searched l.lo l.hi l.id (take l.i l.values) l.initial.positions l.found l.positions
