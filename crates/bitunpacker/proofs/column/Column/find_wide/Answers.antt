-- A turn reads the value at the id, and the search stands one id further, whether that value matches or not.
use Rattle.std.proofs.Common.{sym, ◌∙◌}
use Rattle.bitunpacker.proofs.Wide.{stands_at_start, stands_after_match, stands_after_pass, stands_at_end}
use Rattle.bitunpacker.proofs.column.Column.find_wide.Goals as goal
use Rattle.bitunpacker.proofs.column.Column.find_wide.Goals.{then-lies_between, else-lies_between}

pub loop-id-init : goal.loop-id-init
loop-id-init c = stands_at_start _ _ _ _ _ _ _ c.requires.within.0

pub loop-id-preserved : goal.loop-id-preserved
loop-id-preserved c =
    let here = c.loop-id.invariant in
    let more = c.loop-id-test.true in
    let test = sym c.lies_between.ensures in
    elim c.if-lies_between.branch [
      | then-lies_between w ↦ rw (w.positions-is, w.found-is) (stands_after_match here more c.value_at.ensures c.requires.room (test ∙ w.if-lies_between.true))
      | else-lies_between w ↦ rw (w.positions-is, w.found-is) (stands_after_pass here more c.value_at.ensures (test ∙ w.if-lies_between.false))
    ]

pub returns : goal.returns
returns c = stands_at_end c.loop-id.invariant c.loop-id-test.false
