-- What `new` answers says whether the width is legal. Where it is, what `get` answers is put or refused as the definition says.
use Rattle.std.specs.Prelude.{Ok, Err}
use Rattle.std.proofs.Common.{◌∙◌}
use Rattle.std.proofs.lemmas.Result.{err_from_is_err_and}
use Rattle.stumpvessel.proofs.Calls.{read_made, read_not_made}
use Rattle.stumpvessel.proofs.read.Goals as goal

pub returns-in_err-new : goal.returns-in_err-new
returns-in_err-new c =
    let out = err_from_is_err_and c.from_residual.result c.from_residual.ensures.1 in
    rw (out.1, out.2) (read_not_made c.args.data.now c.args.width c.args.index c.args.output.now _ c.in_err-new.ensures)

pub returns-in_err-value : goal.returns-in_err-value
returns-in_err-value c =
    let step = c.from_residual-in_err-value in
    let out = err_from_is_err_and step.result step.ensures.1 in
    rw (out.1, out.2)
    (read_made c.args.data.now c.args.width c.args.index c.args.output.now _ c.in_ok-new.ensures (Err _) c.in_err-value.ensures)

pub returns : goal.returns
returns c =
    c.put.ensures
    ∙ read_made c.args.data.now c.args.width c.args.index c.args.output.now _ c.in_ok-new.ensures (Ok _) c.in_ok-value.ensures
