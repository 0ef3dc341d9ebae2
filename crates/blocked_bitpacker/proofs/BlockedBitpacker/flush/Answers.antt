-- The refusal and the empty flush are the first checks in their order; what waits is then handed to `seal` (`flush_seals`).
use Rattle.std.proofs.Common.{take, sym, ap, ◌∙◌, length-take-le, eq-eqb, arith}
use Rattle.blocked_bitpacker.specs.Calls.{seal_or_refuse, flush_of}
use Rattle.blocked_bitpacker.proofs.Judged.{judged}
use Rattle.blocked_bitpacker.proofs.Changing.{flush_seals}
use Rattle.blocked_bitpacker.proofs.BlockedBitpacker.flush.Goals as goal

pub returns-then-is_damaged : goal.returns-then-is_damaged
unfolding flush_of
returns-then-is_damaged c = simp (c.refused.ensures, sym c.if-is_damaged.ensures)

pub returns-then-waiting-eq0 : goal.returns-then-waiting-eq0
unfolding flush_of
returns-then-waiting-eq0 c = simp (sym c.if-is_damaged.ensures, eq-eqb _ 0 c.if-waiting-eq0.true)

pub slice_bounds-seal-end : goal.slice_bounds-seal-end
slice_bounds-seal-end c =
    let counts = (judged _ _ _ (sym c.if-is_damaged.ensures)).sound in
    sym (length-take-le _ c.places.result.now (omega (arith, counts.few_waiting, c.places.ensures.len)))

pub returns : goal.returns
returns c =
    c.seal.ensures
    ∙ ap (λ l. seal_or_refuse c.args.self (take c.args.self.waiting l) c.args.self.waiting c.args.bytes.now c.args.entries.now) c.places.ensures.same
    ∙ flush_seals _ _ _ (sym c.if-is_damaged.ensures) c.if-waiting-eq0.false
