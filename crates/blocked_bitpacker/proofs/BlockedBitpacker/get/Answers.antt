-- The refusals are the first two tests in their order. Past them the value is read from its block, or is one of those that wait.
use Rattle.std.specs.Prelude.{Err}
use Rattle.std.proofs.Common.{◌≡◌, ap, ◌∙◌, le-leb, arith}
use Rattle.std.proofs.lemmas.Result.{err_from_is_err_and}
use borrow.Author.Tests.{lt-leb}
use Rattle.blocked_bitpacker.specs.Store.{count_of}
use Rattle.blocked_bitpacker.specs.Calls.{get_of}
use Rattle.blocked_bitpacker.specs.Parts.{got}
use Rattle.blocked_bitpacker.proofs.BlockedBitpacker.get.Goals as goal

pub returns-in_err-lent : goal.returns-in_err-lent
unfolding get_of
returns-in_err-lent c =
    let out = err_from_is_err_and c.from_residual.result c.from_residual.ensures.1 in
    let refused = c.in_err-lent.ensures.refused in
    rw (out.1, out.2) (simp refused.1 (ap Err refused.0))

pub returns-then-count-idx : goal.returns-then-count-idx
unfolding get_of
returns-then-count-idx c =
    let lent = c.in_ok-lent.ensures.lent in
    let count : c.count.result ≡ count_of c.args.self = c.count.ensures ∙ ap count_of lent.same_store in
    simp (lent.fine, le-leb (count_of c.args.self) c.args.idx (omega arith))

pub returns : goal.returns
unfolding get_of got
returns c =
    let lent = c.in_ok-lent.ensures.lent in
    let count : c.count.result ≡ count_of c.args.self = c.count.ensures ∙ ap count_of lent.same_store in
    simp (lent.fine, lt-leb (count_of c.args.self) c.args.idx (omega arith))
    (simp (lent.same_store, lent.same_bytes, lent.same_entries) at c.get.ensures)
