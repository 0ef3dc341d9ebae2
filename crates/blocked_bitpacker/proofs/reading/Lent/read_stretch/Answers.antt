-- Values that wait are copied, and those of a block are read from the part at its offset (`waiting_part`, `block_read`).
use Rattle.std.proofs.Common.{◌%◌, take, drop, refl, ap, ap₂, ◌∙◌, arith}
use Rattle.blocked_bitpacker.proofs.ReadingLaws.{whole, part_starts}
use Rattle.blocked_bitpacker.proofs.Values.{waiting_part, block_read}
use Rattle.blocked_bitpacker.proofs.reading.Lent.read_stretch.Goals as goal

pub returns-then-self-k : goal.returns-then-self-k
returns-then-self-k c =
    waiting_part c.args.self.now.store.now c.args.self.now.bytes.now c.requires _ c.if-self-k.true c.copy_from_slice.ensures.len
    (c.copy_from_slice.ensures.after ∙ ap₂ (λ n l. take n (drop (c.args.idx % 128) l)) (omega arith) c.places.ensures.same)

pub slice_bounds-bytes-count : goal.slice_bounds-bytes-count
slice_bounds-bytes-count c =
    omega (arith, c.entry-entry.ensures.0, part_starts (whole _ _ _ _ (c.requires.fine c.if-self-k.false)) c.args.self.now.bytes.now (omega arith))

pub slice_bounds-bytes-start : goal.slice_bounds-bytes-start
slice_bounds-bytes-start c =
    omega (arith, c.entry-entry.ensures.0, part_starts (whole _ _ _ _ (c.requires.fine c.if-self-k.false)) c.args.self.now.bytes.now (omega arith))

pub returns : goal.returns
returns c =
    let s = c.args.self.now in
    let entry = c.entry-entry.ensures in
    ap (λ r. r.output)
    (block_read s.store.now s.bytes.now c.requires c.if-self-k.false (whole _ _ _ _ (c.requires.fine c.if-self-k.false)) (omega arith) _ refl
    entry.0 entry.1 entry.2 _ _ c.read.ensures)
