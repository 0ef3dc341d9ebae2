-- What `new` answers says whether the width is legal. Where it is, the value at the place with the base added is the definition, and a
-- refusal of either goes out as it came.
use Rattle.std.specs.Prelude.{Ok, Err}
use Rattle.std.proofs.lemmas.Result.{err_from_is_err_and}
use Rattle.block.proofs.Reading.{read_one_made, read_one_not_made}
use Rattle.block.proofs.read_one.Goals as goal

pub returns-in_err-new : goal.returns-in_err-new
returns-in_err-new c =
    let out = err_from_is_err_and c.from_residual.result c.from_residual.ensures.1 in
    rw (out.1, out.2) (read_one_not_made c.args.base c.args.width c.args.place c.args.bytes.now _ c.in_err-new.ensures)

pub returns-in_err-difference : goal.returns-in_err-difference
returns-in_err-difference c =
    let step = c.from_residual-in_err-difference in
    let out = err_from_is_err_and step.result step.ensures.1 in
    rw (out.1, out.2)
    (read_one_made c.args.base c.args.width c.args.place c.args.bytes.now _ c.in_ok-new.ensures (Err _) c.in_err-difference.ensures)

pub returns : goal.returns
returns c = read_one_made c.args.base c.args.width c.args.place c.args.bytes.now _ c.in_ok-new.ensures (Ok _) c.in_ok-difference.ensures
