-- At the start no byte is stored and `rest` is x. A turn stores the next byte, which is `emit_more`, and takes it off the rest.
use Rattle.std.proofs.Common.{◌≡◌, refl, sym, ap, ap₂, ◌∙◌, ◌+◌, ◌/◌, ◌%◌, ◌^◌, set, take}
use native.Mathlib.Nat.{div-one, div-div-eq-div-mul, pow-suc}
use native.Mathlib.Numerals.{add-one}
use Rattle.bit_rule.specs.Bytes.{bytes_of}
use Rattle.bitpacker.proofs.Laws.{emit_more}
use Rattle.bitpacker.proofs.store_bytes.Goals as goal

pub loop-place-init : goal.loop-place-init
unfolding bytes_of
loop-place-init c = (sym (div-one _), refl)

pub loop-place-preserved : goal.loop-place-preserved
loop-place-preserved c =
    let x = c.args.x in
    let i = c.loop-place.place-index in
    let inv = c.loop-place.invariant in
    let quotient : x / 256 ^ i / 256 ≡ x / 256 ^ (i + 1) =
    div-div-eq-div-mul x (256 ^ i) 256 ∙ ap (λ k. x / k) (sym (pow-suc 256 i) ∙ ap (λ k. 256 ^ k) (sym (add-one i))) in
    let next = ap₂ (λ l q. set l i (q % 256)) inv.1 inv.0 ∙ emit_more i x (take c.args.n c.args.output.now) c.loop-place-test.true in
    (ap (λ q. q / 256) inv.0 ∙ quotient, next)
