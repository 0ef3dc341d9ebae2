-- The refusals and the empty range are the five tests in their order. Past them `find` puts the ids at the start of the positions.
use Rattle.std.specs.Prelude.{Err}
use Rattle.std.proofs.Common.{ap₂, sym, ◌∙◌, le-leb, lt-ltb, le-ltb}
use Rattle.std.proofs.lemmas.Result.{err_from_is_err_and}
use borrow.Author.Tests.{lt-leb}
use Rattle.bitunpacker.specs.Unpacker.{search, search_of, ids_of}
use Rattle.bitunpacker.proofs.Laws.{refused, passed}
use Rattle.bitunpacker.proofs.Narrow.{kept_answer, kept_same}
use Rattle.bitunpacker.proofs.BitUnpacker.get_ids_for_value_range.Goals as goal

pub returns-in_err-checked : goal.returns-in_err-checked
unfolding search_of
returns-in_err-checked c =
    let p = err_from_is_err_and c.from_residual.result c.from_residual.ensures.1 in
    rw (p.1, p.2) (sym (refused c.args.self _ (λ e. search (Err e) c.args.positions.now) _ (sym c.in_err-checked.ensures.first)))

pub returns-then-end-start : goal.returns-then-end-start
unfolding search_of
returns-then-end-start c =
    sym (passed c.args.self (λ e. search (Err e) c.args.positions.now) _ (sym c.in_ok-checked.ensures.first) ∙ simp (le-leb _ _ c.if-end-start.true))

pub returns-in_err-column : goal.returns-in_err-column
unfolding search_of
returns-in_err-column c =
    let p = err_from_is_err_and c.from_residual-in_err-column.result c.from_residual-in_err-column.ensures.1 in
    rw (p.1, p.2, c.in_err-column.ensures.0)
    (sym
    (passed c.args.self (λ e. search (Err e) c.args.positions.now) _ (sym c.in_ok-checked.ensures.first)
    ∙ simp (lt-leb _ _ c.if-end-start.false, c.in_err-column.ensures.1)))

pub returns-then-positions-end : goal.returns-then-positions-end
unfolding search_of
returns-then-positions-end c =
    sym
    (passed c.args.self (λ e. search (Err e) c.args.positions.now) _ (sym c.in_ok-checked.ensures.first)
    ∙ simp (lt-leb _ _ c.if-end-start.false, c.in_ok-column.ensures.inside, lt-ltb _ _ c.if-positions-end.true))

pub returns : goal.returns
unfolding search_of
returns c =
    let column = c.in_ok-column.ensures in
    let ids = ap₂ (λ u bs. ids_of u.num_bits c.args.lo c.args.hi c.args.start c.args.end bs) column.unpacker column.bytes in
    kept_answer (kept_same ids c.find.ensures)
    ∙ sym
    (passed c.args.self (λ e. search (Err e) c.args.positions.now) _ (sym c.in_ok-checked.ensures.first)
    ∙ simp (lt-leb _ _ c.if-end-start.false, column.inside, le-ltb _ _ c.if-positions-end.false))
