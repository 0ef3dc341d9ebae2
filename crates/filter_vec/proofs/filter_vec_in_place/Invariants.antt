-- After i turns the count and the slice are the filter's over the first i values.
use Rattle.filter_vec.proofs.Turn.{Passed}
use Rattle.filter_vec.proofs.filter_vec_in_place.Given as goal

abbrev pub invariant-loop-i : goal.invariant-loop-i
invariant-loop-i l = Passed l.lo l.hi l.offset l.fn.output l.i l.count l.output
