-- The refusals and the empty output are the four tests in their order. Past them `fill` writes the stretch.
use Rattle.std.specs.Prelude.{Err}
use Rattle.std.proofs.Common.{ap₂, length, sym, ap, ◌∙◌}
use Rattle.std.proofs.lemmas.List.{map-id}
use Rattle.std.proofs.lemmas.Result.{err_from_is_err_and}
use Rattle.refusal.specs.Done.{done}
use Rattle.bit_rule.specs.Place.{values_from}
use Rattle.bitunpacker.specs.Unpacker.{range, get_range_of}
use Rattle.bitunpacker.proofs.Laws.{refused, passed}
use Rattle.bitunpacker.proofs.BitUnpacker.get_range.Goals as goal

pub returns-in_err-checked : goal.returns-in_err-checked
unfolding get_range_of
returns-in_err-checked c =
    let p = err_from_is_err_and c.from_residual.result c.from_residual.ensures.1 in
    rw (p.1, p.2) (sym (refused c.args.self _ (λ e. range (Err e) c.args.output.now) _ (sym c.in_err-checked.ensures.first)))

pub returns-then-is_empty : goal.returns-then-is_empty
unfolding get_range_of
returns-then-is_empty c =
    let empty = sym c.if-is_empty.ensures in
    sym (passed c.args.self (λ e. range (Err e) c.args.output.now) _ (sym c.in_ok-checked.ensures.first) ∙ simp empty)

pub returns-in_err-column : goal.returns-in_err-column
unfolding get_range_of
returns-in_err-column c =
    let some = sym c.if-is_empty.ensures in
    let p = err_from_is_err_and c.from_residual-in_err-column.result c.from_residual-in_err-column.ensures.1 in
    rw (p.1, p.2, c.in_err-column.ensures.0)
    (sym (passed c.args.self (λ e. range (Err e) c.args.output.now) _ (sym c.in_ok-checked.ensures.first) ∙ simp (some, c.in_err-column.ensures.1)))

pub returns : goal.returns
unfolding get_range_of
returns c =
    let some = sym c.if-is_empty.ensures in
    let column = c.in_ok-column.ensures in
    let filled = c.fill.ensures ∙ map-id _ ∙ ap₂ (λ u bs. values_from u.num_bits c.args.start_idx (length c.args.output.now) bs) column.unpacker column.bytes in
    ap (range done) filled
    ∙ sym (passed c.args.self (λ e. range (Err e) c.args.output.now) _ (sym c.in_ok-checked.ensures.first) ∙ simp (some, column.inside))
