-- The refusals and the empty range are the five tests in their order. Past them `find` puts the ids at the start of the positions.
use Rattle.std.specs.Prelude.{Err}
use Rattle.std.proofs.Common.{◌≡◌, ◌<◌, ◌≤◌, sym, ap, ◌∙◌, le-leb, lt-ltb, le-ltb, arith}
use Rattle.std.proofs.lemmas.Result.{err_from_is_err_and}
use borrow.Author.Tests.{lt-leb}
use Rattle.bitunpacker.specs.Unpacker.{search}
use Rattle.bitunpacker.proofs.Narrow.{kept_answer}
use Rattle.blocked_bitpacker.specs.Store.{count_of}
use Rattle.blocked_bitpacker.specs.Calls.{search_of}
use Rattle.blocked_bitpacker.proofs.BlockedBitpacker.get_ids_for_value_range.Goals as goal

pub returns-in_err-lent : goal.returns-in_err-lent
unfolding search_of
returns-in_err-lent c =
    let out = err_from_is_err_and c.from_residual.result c.from_residual.ensures.1 in
    let refused = c.in_err-lent.ensures.refused in
    rw (out.1, out.2) (simp refused.1 (ap (λ r. search (Err r) c.args.positions.now) refused.0))

pub returns-then-end-start : goal.returns-then-end-start
unfolding search_of
returns-then-end-start c = simp (c.in_ok-lent.ensures.lent.fine, le-leb _ _ c.if-end-start.true)

pub returns-then-count-end : goal.returns-then-count-end
unfolding search_of
returns-then-count-end c =
    let lent = c.in_ok-lent.ensures.lent in
    let count : c.count.result ≡ count_of c.args.self = c.count.ensures ∙ ap count_of lent.same_store in
    let past : count_of c.args.self < c.args.end = omega arith in
    simp (lent.fine, lt-leb _ _ c.if-end-start.false, lt-ltb _ _ past)

pub returns-then-positions-end : goal.returns-then-positions-end
unfolding search_of
returns-then-positions-end c =
    let lent = c.in_ok-lent.ensures.lent in
    let count : c.count.result ≡ count_of c.args.self = c.count.ensures ∙ ap count_of lent.same_store in
    let within : c.args.end ≤ count_of c.args.self = omega arith in
    simp (lent.fine, lt-leb _ _ c.if-end-start.false, le-ltb _ _ within, lt-ltb _ _ c.if-positions-end.true)

pub returns-then-touches_damage : goal.returns-then-touches_damage
unfolding search_of
returns-then-touches_damage c =
    let lent = c.in_ok-lent.ensures.lent in
    let count : c.count.result ≡ count_of c.args.self = c.count.ensures ∙ ap count_of lent.same_store in
    let within : c.args.end ≤ count_of c.args.self = omega arith in
    let touched = simp (lent.same_store, lent.same_entries) at c.touches_damage.ensures in
    simp (
      lent.fine,
      lt-leb _ _ c.if-end-start.false,
      le-ltb _ _ within,
      le-ltb _ _ c.if-positions-end.false,
      sym touched ∙ c.if-touches_damage.true,
    )

pub returns : goal.returns
unfolding search_of
returns c =
    let lent = c.in_ok-lent.ensures.lent in
    let count : c.count.result ≡ count_of c.args.self = c.count.ensures ∙ ap count_of lent.same_store in
    let within : c.args.end ≤ count_of c.args.self = omega arith in
    let touched = simp (lent.same_store, lent.same_entries) at c.touches_damage.ensures in
    let found = simp (lent.same_store, lent.same_bytes, lent.same_entries) at c.find.ensures in
    simp (
      lent.fine,
      lt-leb _ _ c.if-end-start.false,
      le-ltb _ _ within,
      le-ltb _ _ c.if-positions-end.false,
      sym touched ∙ c.if-touches_damage.false,
    )
    (kept_answer found)
