-- Each test is one of the definition's checks, and past them the packed words are their stream at the start of the output.
use Rattle.std.proofs.Common.{◌*◌, length, sym, ap, ◌∙◌, arith}
use Rattle.bit_rule.specs.Bytes.{bytes_for}
use Rattle.stumpvessel.specs.Host.{answered}
use Rattle.stumpvessel.proofs.Calls.{pack_bad_width, pack_odd, pack_too_wide, pack_no_room, pack_done}
use Rattle.stumpvessel.proofs.pack_list.Goals as goal

pub returns-then-width-gt64 : goal.returns-then-width-gt64
returns-then-width-gt64 c = pack_bad_width _ _ _ c.if-width-gt64.true

pub returns-then-not-is_empty : goal.returns-then-not-is_empty
returns-then-not-is_empty c =
    pack_odd _ _ _ c.if-width-gt64.false c.as_chunks.ensures.back_len (sym c.is_empty.ensures ∙ c.if-not-is_empty.true)

pub returns-then-has_too_wide : goal.returns-then-has_too_wide
returns-then-has_too_wide c =
    pack_too_wide _ _ _ c.if-width-gt64.false c.as_chunks.ensures.back_len (sym c.is_empty.ensures ∙ c.if-not-is_empty.false)
    (λ i. omega (arith, c.type_inv.list i)) c.as_chunks.ensures.front (sym c.has_too_wide.ensures ∙ c.if-has_too_wide.true)

pub returns-then-output-column_bytes : goal.returns-then-output-column_bytes
returns-then-output-column_bytes c =
    let size = c.column_bytes.ensures.whole (omega (arith, c.as_chunks.ensures.front_len), omega (arith, c.from.ensures)) in
    pack_no_room _ _ _ c.if-width-gt64.false c.as_chunks.ensures.back_len (sym c.is_empty.ensures ∙ c.if-not-is_empty.false)
    (λ i. omega (arith, c.type_inv.list i)) c.as_chunks.ensures.front (sym c.has_too_wide.ensures ∙ c.if-has_too_wide.false)
    (size ∙ ap (λ w. bytes_for (length c.as_chunks.result.0.now * w)) c.from.ensures) c.if-output-column_bytes.true

pub returns : goal.returns
returns c =
    let size = c.column_bytes.ensures.whole (omega (arith, c.as_chunks.ensures.front_len), omega (arith, c.from.ensures)) in
    ap (answered 0) c.pack.ensures
    ∙ pack_done _ _ _ c.if-width-gt64.false c.as_chunks.ensures.back_len (sym c.is_empty.ensures ∙ c.if-not-is_empty.false)
    (λ i. omega (arith, c.type_inv.list i)) c.as_chunks.ensures.front (sym c.has_too_wide.ensures ∙ c.if-has_too_wide.false)
    (size ∙ ap (λ w. bytes_for (length c.as_chunks.result.0.now * w)) c.from.ensures) c.if-output-column_bytes.false
