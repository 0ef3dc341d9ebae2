-- Where eight bytes have room, the value's are copied to the start.
use Rattle.std.proofs.Common.{◌∙◌}
use Rattle.stumpvessel.proofs.Calls.{put_short, put_done}
use Rattle.stumpvessel.proofs.put.Goals as goal

pub returns-then-output-lt8 : goal.returns-then-output-lt8
returns-then-output-lt8 c = put_short c.args.value c.args.output.now c.if-output-lt8.true

pub returns : goal.returns
returns c =
    put_done c.args.value c.args.output.now c.copy_from_slice.new.self (c.copy_from_slice.ensures.after ∙ c.to_le_bytes.ensures) c.if-output-lt8.false
