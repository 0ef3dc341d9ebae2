-- What a store that is not damaged is known to be, in its two areas: each of the tests that the definition joins is false.
use mathlib.Core.Path.{◌≡◌, refl, sym, ap, ◌∙◌}
use mathlib.Core.Bool.{Bool, true, false, ◌||◌, ◌&&◌}
use Prim.Native.Nat.{ℕ, ◌+◌, ◌*◌}
use native.Mathlib.Omega.{arith}
use lib.Dec.{ltb, eqb}
use borrow.Author.Tests.{ltb-false, lt-ltb, eqb-false}
use Rattle.blocked_bitpacker.specs.declared.BlockedBitpacker.{BlockedBitpacker}
use Rattle.blocked_bitpacker.specs.Store.{block_limit, is_closed, damaged_store}
use Rattle.blocked_bitpacker.specs.Parts.{Judged}

-- two tests joined by "or" that give false are both false
pub neither : (a b : Bool) → (a || b) ≡ false → (a ≡ false) × (b ≡ false)
neither true b h = absurd (let z : ◌≡◌ {A = ℕ} 0 1 = cc in omega arith)
neither false b h = (refl, h)

pub judged : (s : BlockedBitpacker) (byteArea entryArea : ℕ) → damaged_store s byteArea entryArea ≡ false → Judged s byteArea entryArea
unfolding damaged_store
judged s byteArea entryArea fine =
    let waiting = ltb 127 s.waiting in
    let blocks = waiting || ltb block_limit s.blocks in
    let used = blocks || ltb (1024 * s.blocks) s.used in
    let bytes = used || ltb byteArea (s.used + 8) in
    let entries = bytes || ltb entryArea (2 * s.blocks) in
    let last = entries || ltb 127 s.last_length in
    let closed = ltb 0 s.waiting || eqb s.blocks 0 in
    let h₆ = neither last (is_closed s && closed) fine in
    let h₅ = neither entries (ltb 127 s.last_length) h₆.0 in
    let h₄ = neither bytes (ltb entryArea (2 * s.blocks)) h₅.0 in
    let h₃ = neither used (ltb byteArea (s.used + 8)) h₄.0 in
    let h₂ = neither blocks (ltb (1024 * s.blocks) s.used) h₃.0 in
    let h₁ = neither waiting (ltb block_limit s.blocks) h₂.0 in
    record {
      sound = record {
        few_waiting = ltb-false _ _ h₁.0;
        few_blocks = ltb-false _ _ h₁.1;
        short_last = ltb-false _ _ h₅.1;
        used_bound = ltb-false _ _ h₂.1;
        closed_alone = λ is-closed.
            let both = neither (ltb 0 s.waiting) (eqb s.blocks 0) (sym (ap (λ t. t && closed) (lt-ltb _ _ is-closed)) ∙ h₆.1) in
            let some = eqb-false s.blocks 0 both.1 in
            (omega (arith, ltb-false 0 s.waiting both.0), omega arith);
      };
      room = ltb-false _ _ h₃.1;
      entries_there = ltb-false _ _ h₄.1;
    }
