-- A value that waits is one of the array's; a damaged entry is refused. Any other block ends in the used bytes, so that the value lies in the
-- part at its offset (`one_value`).
use Rattle.std.proofs.Common.{◌≡◌, ◌/◌, ◌%◌, sym, ap, ap₂, ◌∙◌, lt-ltb, le-ltb, arith}
use Rattle.bit_rule.proofs.Parts.{rest_from}
use Rattle.block.specs.Block.{entry_base}
use Rattle.block.specs.Calls.{read_one_of}
use Rattle.blocked_bitpacker.specs.Parts.{got}
use Rattle.blocked_bitpacker.specs.Store.{value_of}
use Rattle.blocked_bitpacker.proofs.ReadingLaws.{whole, part_starts, one_value, place_below}
use Rattle.blocked_bitpacker.proofs.reading.Lent.get.Goals as goal

pub returns-then-self-k : goal.returns-then-self-k
unfolding got value_of
returns-then-self-k c = simp (le-ltb _ _ c.if-self-k.true)

pub returns-then-entry_is_damaged : goal.returns-then-entry_is_damaged
unfolding got
returns-then-entry_is_damaged c = simp (lt-ltb _ _ c.if-self-k.false, sym c.if-entry_is_damaged.ensures)

pub slice_bounds-read_one-count : goal.slice_bounds-read_one-count
slice_bounds-read_one-count c =
    omega (arith, c.entry-entry.ensures.0, part_starts (whole _ _ _ _ (sym c.if-entry_is_damaged.ensures)) c.args.self.now.bytes.now (omega arith))

pub slice_bounds-read_one-start : goal.slice_bounds-read_one-start
slice_bounds-read_one-start c =
    omega (arith, c.entry-entry.ensures.0, part_starts (whole _ _ _ _ (sym c.if-entry_is_damaged.ensures)) c.args.self.now.bytes.now (omega arith))

pub returns : goal.returns
unfolding got value_of
returns c =
    let s = c.args.self.now in
    let k = c.args.idx / 128 in
    let place = c.args.idx % 128 in
    let fine = sym c.if-entry_is_damaged.ensures in
    let entry = c.entry-entry.ensures in
    let within = place_below s.store.now c.args.idx c.requires c.if-self-k.false in
    let read : c.read_one.result ≡ read_one_of (entry_base k s.entries.now) _ place (rest_from _ s.bytes.now) =
    c.read_one.ensures
    ∙ ap (λ b. read_one_of b c.entry-entry.result.width place (rest_from c.entry-entry.result.offset s.bytes.now)) entry.2
    ∙ ap₂ (λ w at. read_one_of (entry_base k s.entries.now) w place (rest_from at s.bytes.now)) entry.1 entry.0 in
    simp (lt-ltb _ _ c.if-self-k.false, fine)
    (read ∙ one_value (whole _ _ _ _ fine) s.bytes.now (omega arith) place within)
