-- A 64-bit number has at most 64 leading zeros, and the two arms are the two cases of `width_of`.
use Rattle.std.proofs.Common.{◌≤◌, ◌<◌, arith}
use borrow.Author.Tests.{lt-ltb, le-ltb}
use Rattle.bit_rule.specs.Width.{digits_of, width_of}
use Rattle.num_bits.proofs.compute_num_bits.Goals as goal

pub returns-then-amplitude-le56 : goal.returns-then-amplitude-le56
unfolding width_of digits_of
returns-then-amplitude-le56 c =
    let digits = digits_of c.args.n in
    let narrow : digits ≤ 56 = omega arith in
    rw (le-ltb 56 digits narrow)

pub returns-else-amplitude-le56 : goal.returns-else-amplitude-le56
unfolding width_of digits_of
returns-else-amplitude-le56 c =
    let digits = digits_of c.args.n in
    let wide : 56 < digits = omega arith in
    rw (lt-ltb 56 digits wide)
