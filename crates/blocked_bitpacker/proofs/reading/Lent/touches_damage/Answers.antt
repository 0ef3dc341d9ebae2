-- The blocks from the first on are what the definition names; each turn takes one of them away (`blocks_next`), and past the last one none is
-- left (`blocks_none`).
use Rattle.std.proofs.Common.{◌≡◌, ◌+◌, ◌-◌, ◌/◌, ◌||◌, min, sym, ap, ◌∙◌, arith}
use Rattle.blocked_bitpacker.specs.Store.{damaged_blocks, touched_damaged}
use Rattle.blocked_bitpacker.proofs.Values.{blocks_next, blocks_none}
use Rattle.blocked_bitpacker.proofs.reading.Lent.touches_damage.Goals as goal

pub loop-k-init : goal.loop-k-init
unfolding touched_damaged
loop-k-init c =
    let s = c.args.self.now in
    let first = c.args.start / 128 in
    let last : min ((c.args.end + 127) / 128) s.store.now.blocks ≡ c.min-last.result = omega (arith, c.min-last.ensures, c.div_ceil.ensures) in
    ap (λ n. damaged_blocks s.store.now s.entries.now first (n - first)) last

pub returns-then-entry_is_damaged : goal.returns-then-entry_is_damaged
returns-then-entry_is_damaged c =
    let s = c.args.self.now in
    let rest = damaged_blocks s.store.now s.entries.now (c.loop-k.k + 1) _ in
    sym
    (c.loop-k.invariant ∙ blocks_next s.store.now s.entries.now c.loop-k.k _ c.loop-k-test.true ∙ ap (λ t. t || rest) (sym c.if-entry_is_damaged.ensures))

pub loop-k-preserved : goal.loop-k-preserved
loop-k-preserved c =
    let s = c.args.self.now in
    let rest = damaged_blocks s.store.now s.entries.now (c.loop-k.k + 1) _ in
    c.loop-k.invariant ∙ blocks_next s.store.now s.entries.now c.loop-k.k _ c.loop-k-test.true ∙ ap (λ t. t || rest) (sym c.if-entry_is_damaged.ensures)

pub returns : goal.returns
returns c = sym (c.loop-k.invariant ∙ blocks_none c.args.self.now.store.now c.args.self.now.entries.now c.loop-k.k _ c.loop-k-test.false)
