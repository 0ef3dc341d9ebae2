-- The refusals are the two tests in their order; past them `flush_room` says what is emitted, which `store_bytes` stores.
use Rattle.std.proofs.Common.{sym, ap, ap₂, ◌∙◌, arith}
use Rattle.bitpacker.specs.Packer.{outcome, emitting, fresh, emit, flush_of}
use Rattle.bitpacker.proofs.Laws.{sound, ceil_bytes, flush_room, flush_no_room}
use Rattle.bitpacker.proofs.BitPacker.flush.Goals as goal

pub returns-then-damaged : goal.returns-then-damaged
unfolding flush_of
returns-then-damaged c = simp (sym c.damaged.ensures ∙ c.if-damaged.true)

pub returns-then-output-n : goal.returns-then-output-n
returns-then-output-n c =
    let n = c.div_ceil-n.ensures ∙ ceil_bytes _ in
    sym (flush_no_room c.args.self c.args.output.now (sym c.damaged.ensures ∙ c.if-damaged.false) (omega (arith, n)))

pub store_bytes-requires : goal.store_bytes-requires
store_bytes-requires c =
    (omega (arith, (sound c.args.self (sym c.damaged.ensures ∙ c.if-damaged.false)).bits), omega (arith, c.if-output-n.false))

pub returns : goal.returns
returns c =
    let n = c.div_ceil-n.ensures ∙ ceil_bytes _ in
    let whole = sym c.damaged.ensures ∙ c.if-damaged.false in
    sym
    (flush_room c.args.self c.args.output.now whole (omega (arith, n))
    ∙ ap (λ k. outcome (emitting fresh k) (emit k c.args.self.mini_buffer c.args.output.now)) (sym n)
    ∙ ap₂ (λ p l. outcome (emitting p c.div_ceil-n.result) l) (sym c.new.ensures) (sym c.store_bytes.ensures))
