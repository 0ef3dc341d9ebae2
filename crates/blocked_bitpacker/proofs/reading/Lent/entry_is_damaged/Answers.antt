-- Whether the width is legal is whether it has an unpacker. The end of a block of a legal width is a small number, so that nothing wraps.
use Rattle.std.proofs.Common.{◌*◌, ◌≡◌, ◌≤◌, sym, ap₂, ◌∙◌, mul-le-mul, arith}
use Rattle.block.specs.Block.{bytes_of_block}
use Rattle.blocked_bitpacker.specs.Store.{length_of_block}
use Rattle.blocked_bitpacker.proofs.ReadingLaws.{offset_small, block_length-le, damaged_width, narrow_width, damaged_end}
use Rattle.blocked_bitpacker.proofs.reading.Lent.entry_is_damaged.Goals as goal

pub returns-then-is_err : goal.returns-then-is_err
returns-then-is_err c =
    sym
    (damaged_width c.args.self.now.store.now.used _ c.args.k c.args.self.now.entries.now c.entry-entry.ensures.1 c.new.ensures
    (sym c.is_err.ensures.value ∙ c.if-is_err.true))

pub overflow_add-result : goal.overflow_add-result
overflow_add-result c =
    let s = c.args.self.now in
    let narrow = narrow_width s.store.now.used 0 c.args.k s.entries.now c.entry-entry.ensures.1 c.new.ensures (sym c.is_err.ensures.value ∙ c.if-is_err.false) in
    let few : c.block_length.result ≤ 128 = omega (arith, c.block_length.ensures, block_length-le s.store.now c.args.k s.judged.sound) in
    let width : c.from.result ≤ 64 = omega (arith, c.from.ensures, narrow) in
    let bits : c.block_length.result * c.from.result ≤ 128 * 64 = mul-le-mul few width in
    omega (arith, c.column_bytes-size.ensures.whole (omega arith, width), c.entry-entry.ensures.0, offset_small c.args.k s.entries.now)

pub returns : goal.returns
returns c =
    let s = c.args.self.now in
    let fine = sym c.is_err.ensures.value ∙ c.if-is_err.false in
    let narrow = narrow_width s.store.now.used 0 c.args.k s.entries.now c.entry-entry.ensures.1 c.new.ensures fine in
    let few : c.block_length.result ≤ 128 = omega (arith, c.block_length.ensures, block_length-le s.store.now c.args.k s.judged.sound) in
    let size : c.column_bytes-size.result ≡ bytes_of_block (length_of_block s.store.now c.args.k) c.entry-entry.result.width =
    c.column_bytes-size.ensures.whole (omega arith, omega (arith, c.from.ensures, narrow)) ∙ ap₂ bytes_of_block c.block_length.ensures c.from.ensures in
    sym (damaged_end s.store.now.used _ c.args.k s.entries.now c.entry-entry.ensures.1 c.new.ensures fine c.entry-entry.ensures.0 size)
