-- `min_so_far` and `max_so_far` are the lowest and the highest of the numbers among the values passed.
use Rattle.std.proofs.Common.{◌+◌, ◌≤◌, length, take}
use Rattle.std.specs.List.{filter}
use Rattle.num_bits.proofs.Laws.{Extremes}
use Rattle.num_bits.proofs.minmax.Given as goal

abbrev pub invariant-loop-val : goal.invariant-loop-val
invariant-loop-val g l =
    let passed = l.first + 1 + l.val-index in
    (passed ≤ length l.vals) × Extremes g.T.Ranked.below (filter g.T.Ranked.is_number (take passed l.vals)) l.min_so_far l.max_so_far
