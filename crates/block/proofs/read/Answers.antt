-- What `new` answers says whether the width is legal. Where it is, the range read and `raise` after it are the definition, and a refusal of
-- either goes out as it came.
use Rattle.std.specs.Prelude.{Err}
use Rattle.std.proofs.Common.{ap, ◌∙◌}
use Rattle.std.proofs.lemmas.Result.{err_from_is_err_and}
use Rattle.refusal.specs.Done.{done}
use Rattle.bitunpacker.specs.Unpacker.{range}
use Rattle.block.proofs.Reading.{read_made, read_not_made}
use Rattle.block.proofs.read.Goals as goal

pub returns-in_err-new : goal.returns-in_err-new
returns-in_err-new c =
    let out = err_from_is_err_and c.from_residual.result c.from_residual.ensures.1 in
    rw (out.1, out.2) (read_not_made c.args.base c.args.width c.args.first c.args.bytes.now c.args.output.now _ c.in_err-new.ensures)

pub returns-in_err-get_range : goal.returns-in_err-get_range
returns-in_err-get_range c =
    let step = c.from_residual-in_err-get_range in
    let out = err_from_is_err_and step.result step.ensures.1 in
    rw (out.1, out.2)
    (read_made c.args.base c.args.width c.args.first c.args.bytes.now c.args.output.now _ c.in_ok-new.ensures
    (range (Err _) c.get_range.new.output) c.in_err-get_range.ensures)

pub returns : goal.returns
returns c =
    ap (range done) c.raise.ensures
    ∙ read_made c.args.base c.args.width c.args.first c.args.bytes.now c.args.output.now _ c.in_ok-new.ensures
    (range done c.get_range.new.output) c.in_ok-get_range.ensures
