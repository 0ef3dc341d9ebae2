-- At the start nothing is passed. A turn adds the id of its value or leaves both as they are, which `turn_match` and `turn_pass` say, and once
-- every value that has an id is passed, the count and the slice are the filter's.
use Rattle.std.proofs.Common.{◌≡◌, get_or, ◌∙◌, arith}
use Rattle.bit_rule.specs.Search.{lies_between}
use Rattle.filter_vec.proofs.Turn.{none_passed, turn_match, turn_pass, all_passed}
use Rattle.filter_vec.proofs.filter_vec_in_place.Goals as goal
use Rattle.filter_vec.proofs.filter_vec_in_place.Goals.{then-lies_between, else-lies_between}

pub loop-i-init : goal.loop-i-init
loop-i-init c = none_passed _ _ _ _

pub loop-i-preserved : goal.loop-i-preserved
loop-i-preserved c =
    let passed = c.loop-i.invariant in
    let test : lies_between c.args.lo c.args.hi (get_or c.loop-i.output c.loop-i.i 0) ≡ c.lies_between.result = cc in
    elim c.if-lies_between.branch [
      | then-lies_between w ↦ rw (w.output-is, w.count-is) (turn_match passed (omega arith) (test ∙ w.if-lies_between.true))
      | else-lies_between w ↦ rw (w.output-is, w.count-is) (turn_pass passed (omega arith) (test ∙ w.if-lies_between.false))
    ]

pub returns : goal.returns
returns c = all_passed c.loop-i.invariant (omega arith)
