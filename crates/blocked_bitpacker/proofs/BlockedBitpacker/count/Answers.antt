-- The one check, and then the number of values accepted.
use Rattle.std.specs.Prelude.{Err}
use Rattle.std.proofs.Common.{ap}
use Rattle.std.proofs.lemmas.Result.{err_from_is_err_and}
use Rattle.blocked_bitpacker.specs.Calls.{counted_of}
use Rattle.blocked_bitpacker.proofs.BlockedBitpacker.count.Goals as goal

pub returns-in_err-lent : goal.returns-in_err-lent
unfolding counted_of
returns-in_err-lent c =
    let out = err_from_is_err_and c.from_residual.result c.from_residual.ensures.1 in
    let refused = c.in_err-lent.ensures.refused in
    rw (out.1, out.2) (simp refused.1 (ap Err refused.0))

pub returns : goal.returns
unfolding counted_of
returns c =
    let lent = c.in_ok-lent.ensures.lent in
    simp (lent.fine, c.count.ensures, lent.same_store)
