-- The refusals are the first checks in their order. An add that is not the 128th changes one place and a count (`add_waits`); the 128th hands
-- the 128 values to `seal` (`add_seals`).
use Rattle.std.proofs.Common.{ℕ, ◌≡◌, length, sym, ap, ◌∙◌, length-set, lt-ltb, arith}
use Rattle.blocked_bitpacker.specs.Calls.{seal_or_refuse, add_of}
use Rattle.blocked_bitpacker.proofs.Judged.{judged}
use Rattle.blocked_bitpacker.proofs.Changing.{add_waits, add_seals}
use Rattle.blocked_bitpacker.proofs.BlockedBitpacker.add.Goals as goal

pub returns-then-is_damaged : goal.returns-then-is_damaged
unfolding add_of
returns-then-is_damaged c = simp (c.refused.ensures, sym c.if-is_damaged.ensures)

pub returns-then-self-gt0 : goal.returns-then-self-gt0
unfolding add_of
returns-then-self-gt0 c =
    simp (c.refused-then-self-gt0.ensures, sym c.if-is_damaged.ensures, lt-ltb 0 _ c.if-self-gt0.true)

pub returns-then-waiting-lt-BLOCK_SIZE : goal.returns-then-waiting-lt-BLOCK_SIZE
returns-then-waiting-lt-BLOCK_SIZE c = add_waits _ _ _ (sym c.if-is_damaged.ensures) _ c.if-self-gt0.false (omega arith)

pub returns : goal.returns
returns c =
    let counts = (judged _ _ _ (sym c.if-is_damaged.ensures)).sound in
    let places : length c.args.self.buffer ≡ 128 = omega (arith, length-set {A = ℕ}, ap length c.places.ensures.same, c.places.ensures.len) in
    c.seal.ensures
    ∙ ap (λ vs. seal_or_refuse c.args.self vs 0 c.args.bytes.now c.args.entries.now) c.places.ensures.same
    ∙ add_seals _ _ _ (sym c.if-is_damaged.ensures) c.args.val c.if-self-gt0.false (omega arith) places
