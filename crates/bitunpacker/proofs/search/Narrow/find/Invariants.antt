-- Between two batches the search stands at an index that starts on a byte, and as many whole batches are left as the highway has.
use Rattle.std.proofs.Common.{◌≡◌, ◌≤◌, ◌-◌, ◌%◌}
use Rattle.bitunpacker.proofs.Narrow.{StandsBefore}
use Rattle.bitunpacker.proofs.search.Narrow.find.Given as goal

abbrev pub invariant-loop-at : goal.invariant-loop-at
invariant-loop-at l =
    let column = l.self.column in
    record {
      whole : (l.off - l.at) % 32 ≡ 0;
      within : l.at ≤ l.off;
      here : StandsBefore column.unpacker.num_bits l.self.interval.lo l.self.interval.hi l.start column.bytes.now l.fn.positions l.at l.found l.positions;
    }

abbrev pub decreases-loop-at : goal.decreases-loop-at
decreases-loop-at l = l.off - l.at
