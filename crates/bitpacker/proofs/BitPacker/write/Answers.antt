-- Each refusal is the first of the four tests that holds; past them the word is the sum of what was held and the value above it, of which
-- `written_held` and `written_word` say what is emitted and what is kept.
use Rattle.std.proofs.Common.{◌≤◌, sym, ap, ◌∙◌, arith}
use borrow.Author.Tests.{le-leb, lt-leb, leb-false}
use Rattle.bitpacker.specs.Packer.{outcome, write_of}
use Rattle.bitpacker.proofs.Laws.{sound, written_held, written_word, write_room, write_no_room}
use Rattle.bitpacker.proofs.BitPacker.write.Goals as goal

pub returns-then-damaged : goal.returns-then-damaged
unfolding write_of
returns-then-damaged c = simp (sym c.damaged.ensures ∙ c.if-damaged.true)

pub returns-then-num_bits-gt64 : goal.returns-then-num_bits-gt64
unfolding write_of
returns-then-num_bits-gt64 c = simp (sym c.damaged.ensures ∙ c.if-damaged.false, lt-leb c.args.num_bits 64 (omega arith))

pub returns-then-exceeds : goal.returns-then-exceeds
unfolding write_of
returns-then-exceeds c =
    simp (
      sym c.damaged.ensures ∙ c.if-damaged.false,
      sym c.from-width.ensures,
      le-leb c.from-width.result 64 (omega (arith, c.from-width.ensures)),
      sym c.exceeds.ensures ∙ c.if-exceeds.true,
    )

pub overflow_add-bits : goal.overflow_add-bits
overflow_add-bits c =
    let whole = sound c.args.self (sym c.damaged.ensures ∙ c.if-damaged.false) in omega (arith, whole.bits, c.from-width.ensures)

pub overflow_shl-word : goal.overflow_shl-word
overflow_shl-word c = (sound c.args.self (sym c.damaged.ensures ∙ c.if-damaged.false)).bits

pub returns-then-bits-lt64 : goal.returns-then-bits-lt64
returns-then-bits-lt64 c =
    let whole = sym c.damaged.ensures ∙ c.if-damaged.false in
    let over = sym c.exceeds.ensures ∙ c.if-exceeds.false in
    let narrow : c.from-width.result ≤ 64 = omega (arith, c.from-width.ensures) in
    sym
    (ap (λ w. write_of c.args.self c.args.val w c.args.output.now) (sym c.from-width.ensures)
    ∙ write_room c.args.self _ c.from-width.result c.args.output.now whole narrow over (omega arith)
    ∙ written_held c.args.self _ c.from-width.result c.args.output.now (sound c.args.self whole) (leb-false _ _ over) c.if-bits-lt64.true)

pub returns-then-output-lt8 : goal.returns-then-output-lt8
returns-then-output-lt8 c =
    let whole = sym c.damaged.ensures ∙ c.if-damaged.false in
    let over = sym c.exceeds.ensures ∙ c.if-exceeds.false in
    let narrow : c.from-width.result ≤ 64 = omega (arith, c.from-width.ensures) in
    sym
    (ap (λ w. write_of c.args.self c.args.val w c.args.output.now) (sym c.from-width.ensures)
    ∙ write_no_room c.args.self _ c.from-width.result c.args.output.now whole narrow over (omega arith))

pub overflow_sub-result : goal.overflow_sub-result
overflow_sub-result c = let whole = sound c.args.self (sym c.damaged.ensures ∙ c.if-damaged.false) in omega (arith, whole.bits)

pub returns : goal.returns
returns c =
    let whole = sym c.damaged.ensures ∙ c.if-damaged.false in
    let over = sym c.exceeds.ensures ∙ c.if-exceeds.false in
    let narrow : c.from-width.result ≤ 64 = omega (arith, c.from-width.ensures) in
    let kept = sound c.args.self whole in
    sym
    (ap (λ w. write_of c.args.self c.args.val w c.args.output.now) (sym c.from-width.ensures)
    ∙ write_room c.args.self _ c.from-width.result c.args.output.now whole narrow over (omega (arith, kept.bits, c.from-width.ensures))
    ∙ written_word c.args.self _ c.from-width.result c.args.output.now kept (leb-false _ _ over) c.if-bits-lt64.false narrow
    ∙ ap (outcome _) (sym c.store_word.ensures))
