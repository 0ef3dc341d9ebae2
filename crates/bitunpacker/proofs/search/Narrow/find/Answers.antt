-- The entrance ramp, the highway's batches and the exit ramp find the ids of stretches that follow one another, and those are the ids of the
-- whole (`stands_further`).
use Rattle.std.proofs.Common.{◌+◌, ◌-◌, ◌%◌, ◌≤◌, length, arith}
use Rattle.bitunpacker.proofs.Narrow.{StandsBefore, room_left, stands_further, stands_at}
use Rattle.bitunpacker.proofs.search.Narrow.find.Goals as goal
use Rattle.bitunpacker.proofs.search.Narrow.find.Goals.{else-loop-at-test, then-loop-at-test+else-off-at-gt32}

pub highway_batch-found-requires-clause-few : goal.highway_batch-found-requires-clause-few
highway_batch-found-requires-clause-few c =
    let here = c.loop-at.invariant.here in
    let next : c.loop-at.at + 32 ≤ c.args.end = omega (arith, c.loop-at.invariant.whole, c.loop-at-test.true) in
    (omega (arith, next, c.ranges.end), omega (arith, room_left here (c.loop-at.at + 32) (omega arith) (omega (arith, next, c.requires.room))))

pub loop-at-preserved : goal.loop-at-preserved
loop-at-preserved c =
    let here = c.loop-at.invariant.here in
    let next : c.loop-at.at + 32 ≤ c.args.end = omega (arith, c.loop-at.invariant.whole, c.loop-at-test.true) in
    record {
      whole = omega (arith, c.loop-at.invariant.whole, c.loop-at-test.true);
      within = omega (arith, c.loop-at.invariant.whole, c.loop-at-test.true);
      here = stands_further here (c.loop-at.at + 32) (omega arith) (omega (arith, next, c.requires.room)) c.highway_batch-found.ensures c.highway_batch-found.auto.positions;
    }

pub ramp-requires-clause-few : goal.ramp-requires-clause-few
ramp-requires-clause-few c =
    let here = c.loop-at.invariant.here in
    let off = c.args.end - (c.args.end - c.ramp_end-on.result) % 32 in
    let room : off - c.args.start ≤ length c.args.positions.now = omega (arith, c.requires.room) in
    let at_end : StandsBefore _ _ _ c.args.start _ c.args.positions.now off c.loop-at-test.found c.loop-at-test.positions =
    elim c.loop-at-test.branch [
      | else-loop-at-test w ↦ stands_at here off (omega (arith, c.loop-at.invariant.within)) w.found-is w.positions-is
      | then-loop-at-test+else-off-at-gt32 w ↦
          stands_at
          (stands_further here (c.loop-at.at + 32) (omega arith) (omega (arith, room)) w.highway_batch-found.ensures w.highway_batch-found.auto.positions)
          off (omega (arith, c.loop-at.invariant.whole)) w.found-is w.positions-is
    ] in
    (omega arith, room_left at_end c.args.end (omega arith) c.requires.room)

pub returns : goal.returns
returns c =
    let here = c.loop-at.invariant.here in
    let off = c.args.end - (c.args.end - c.ramp_end-on.result) % 32 in
    let room : off - c.args.start ≤ length c.args.positions.now = omega (arith, c.requires.room) in
    let at_end : StandsBefore _ _ _ c.args.start _ c.args.positions.now off c.loop-at-test.found c.loop-at-test.positions =
    elim c.loop-at-test.branch [
      | else-loop-at-test w ↦ stands_at here off (omega (arith, c.loop-at.invariant.within)) w.found-is w.positions-is
      | then-loop-at-test+else-off-at-gt32 w ↦
          stands_at
          (stands_further here (c.loop-at.at + 32) (omega arith) (omega (arith, room)) w.highway_batch-found.ensures w.highway_batch-found.auto.positions)
          off (omega (arith, c.loop-at.invariant.whole)) w.found-is w.positions-is
    ] in
    (stands_further at_end c.args.end (omega arith) room c.ramp.ensures c.ramp.auto.positions).kept
