-- The value is read from the eight bytes at its place.
use Rattle.std.proofs.Common.{◌*◌, ◌/◌, ◌%◌, ◌∙◌, arith}
use Rattle.bitunpacker.proofs.Laws.{read_value}
use Rattle.bitunpacker.proofs.column.Column.value_at.Goals as goal

pub returns : goal.returns
returns c =
    let column = c.args.self.now in
    let bit = c.args.index * column.unpacker.num_bits in
    c.bits_at.ensures ∙ read_value column.unpacker c.args.index (bit / 8) (bit % 8) column.bytes.now column.in_data.as_bytes column.in_data.sound (omega arith) (omega arith)
