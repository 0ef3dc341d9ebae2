-- Each block's part is put behind the parts before it (`fill_part`), up to the end of the range.
use Rattle.std.proofs.Common.{◌+◌, ◌-◌, ◌≤◌, length, arith}
use borrow.Rule.Slice.PartMut.{mid_len}
use Rattle.blocked_bitpacker.proofs.Values.{stretch_of_block, fill_none, fill_part}
use Rattle.blocked_bitpacker.proofs.reading.Lent.read_all.Goals as goal

pub loop-k-init : goal.loop-k-init
loop-k-init c =
    let s = c.args.self.now in
    fill_none s.store.now s.bytes.now s.entries.now c.args.output.now c.args.start _ (omega arith)

pub read_stretch-requires : goal.read_stretch-requires
read_stretch-requires c =
    let s = c.args.self.now in
    let start = c.args.start in
    let end = start + length c.args.output.now in
    let from = c.max-from.result in
    let to = c.min-to.result in
    let within : to - start ≤ length c.loop-k.output = omega arith in
    let many = mid_len (from - start) (to - start) c.loop-k.output within in
    stretch_of_block s.store.now s.entries.now start end c.loop-k.k from _ c.requires.fine c.requires.counted (omega arith) c.loop-k.auto.k
    (omega arith) c.max-from.ensures
    (omega (arith, many))

pub loop-k-preserved : goal.loop-k-preserved
loop-k-preserved c =
    let s = c.args.self.now in
    let start = c.args.start in
    let from = c.max-from.result in
    let to = c.min-to.result in
    fill_part s.store.now s.bytes.now s.entries.now c.loop-k.output c.read_stretch.new.output start from to
    (omega arith)
    (omega arith)
    (omega arith)
    (omega arith)
    (omega arith)
    c.loop-k.invariant c.read_stretch.ensures
