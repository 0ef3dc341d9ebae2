-- The array is the eight bytes of the slice.
use Rattle.std.proofs.Common.{◌≡◌, ◌+◌, ◌-◌, length, take, drop, ap, ◌∙◌, arith}
use Rattle.bit_rule.specs.Bytes.{number}
use Rattle.bitunpacker.proofs.Laws.{word_number}
use Rattle.bitunpacker.proofs.bits.load_word.Goals as goal

pub returns : goal.returns
returns c =
    let at = c.args.at in
    let chunk = rw c.unwrap.ensures at c.try_into.ensures in
    let eight : at + 8 - at ≡ 8 = omega arith in
    c.from_le_bytes.ensures
    ∙ word_number c.unwrap.result (ap length chunk.1.same ∙ chunk.1.long)
    ∙ ap number (chunk.1.same ∙ ap (λ n. take n (drop at c.args.bytes.now)) eight)
