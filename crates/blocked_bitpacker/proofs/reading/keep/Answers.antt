-- A turn finds one id more where the value lies between the bounds (`search_match`), and else none (`search_pass`).
use Rattle.std.proofs.Common.{◌≡◌, length, take, sym, ◌∙◌, zero-le, length-take-le, arith}
use Rattle.bit_rule.proofs.Search.{none_searched, search_match, search_pass}
use Rattle.blocked_bitpacker.proofs.Searching.{take_next}
use Rattle.blocked_bitpacker.proofs.reading.keep.Goals as goal
use Rattle.blocked_bitpacker.proofs.reading.keep.Goals.{then-lies_between, else-lies_between}

pub loop-i-init : goal.loop-i-init
loop-i-init c = (zero-le, none_searched _ _ _ _)

pub loop-i-preserved : goal.loop-i-preserved
loop-i-preserved c =
    let values = c.args.values.now in
    let i = c.loop-i.i in
    let inv = c.loop-i.invariant in
    let passed : length (take i values) ≡ i = length-take-le i values (omega arith) in
    let next = take_next values i c.loop-i-test.true in
    let test = sym c.lies_between.ensures in
    elim c.if-lies_between.branch [
      | then-lies_between w ↦
          rw (w.positions-is, w.found-is)
          (omega arith, search_match inv.1 _ next (test ∙ w.if-lies_between.true) (omega arith) (omega (arith, c.requires)))
      | else-lies_between w ↦
          rw (w.positions-is, w.found-is) (omega arith, search_pass inv.1 _ next (test ∙ w.if-lies_between.false))
    ]
