-- Each turn reads the value at the place that `Filling` has, so it goes on one value further; at the end the output is filled.
use Rattle.std.proofs.Common.{◌+◌, ◌∙◌, arith}
use Rattle.bit_rule.proofs.Width.{legal_le}
use Rattle.bitunpacker.proofs.Laws.{column_fits, lead_fits, read_value, read_fits, filling_starts, filling_goes_on}
use Rattle.bitunpacker.proofs.column.Column.fill.Goals as goal

pub overflow_mul-at : goal.overflow_mul-at
overflow_mul-at g c =
    let column = c.args.self.now in
    omega (
      arith,
      column_fits c.args.start column.unpacker.num_bits (omega (arith, c.requires.within, column.in_data.few)) (legal_le _ column.in_data.sound.legal),
    )

pub overflow_add-at : goal.overflow_add-at
overflow_add-at g c =
    let column = c.args.self.now in
    let narrow = legal_le _ column.in_data.sound.legal in
    omega (
      arith,
      column_fits c.args.start column.unpacker.num_bits (omega (arith, c.requires.within, column.in_data.few)) narrow,
      lead_fits c.args.start column.unpacker.num_bits narrow,
    )

pub loop-slot-init : goal.loop-slot-init
loop-slot-init g c = filling_starts _ _ _ _ _

pub of_value-requires : goal.of_value-requires
of_value-requires g c =
    let here = c.loop-slot.invariant in
    let column = c.args.self.now in
    let i = c.args.start + c.loop-slot.slot-index in
    read_fits i _ column.bytes.now
    (c.bits_at.ensures
    ∙ read_value column.unpacker i c.loop-slot.at c.loop-slot.shift column.bytes.now column.in_data.as_bytes column.in_data.sound here.place here.low)
    c.requires.narrow

pub loop-slot-preserved : goal.loop-slot-preserved
loop-slot-preserved g c =
    let here = c.loop-slot.invariant in
    let column = c.args.self.now in
    let i = c.args.start + c.loop-slot.slot-index in
    rw c.of_value.ensures
    (filling_goes_on _ _ _ _ _ _ _ _ _ _ here c.loop-slot-test.true
    (c.bits_at.ensures
    ∙ read_value column.unpacker i c.loop-slot.at c.loop-slot.shift column.bytes.now column.in_data.as_bytes column.in_data.sound here.place here.low))
