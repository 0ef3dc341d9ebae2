-- The refusals and the empty output are the four tests in their order; the end of the range is judged by what the count leaves after the
-- start, so that no sum wraps. Past them `read_all` fills the output.
use Rattle.std.specs.Prelude.{Err}
use Rattle.std.proofs.Common.{◌≡◌, ◌+◌, ◌<◌, ◌≤◌, length, sym, ap, ◌∙◌, lt-ltb, le-ltb, arith}
use Rattle.std.proofs.lemmas.Result.{err_from_is_err_and}
use Rattle.refusal.specs.Done.{done}
use Rattle.bitunpacker.specs.Unpacker.{range}
use Rattle.blocked_bitpacker.specs.Store.{count_of}
use Rattle.blocked_bitpacker.specs.Calls.{get_range_of}
use Rattle.blocked_bitpacker.proofs.BlockedBitpacker.get_range.Goals as goal
use Rattle.blocked_bitpacker.proofs.BlockedBitpacker.get_range.Goals.{then-count-start-via-then-count-start, then-count-start-via-else-count-start+then-count-start-2}

pub returns-in_err-lent : goal.returns-in_err-lent
unfolding get_range_of
returns-in_err-lent c =
    let out = err_from_is_err_and c.from_residual.result c.from_residual.ensures.1 in
    let refused = c.in_err-lent.ensures.refused in
    rw (out.1, out.2) (simp refused.1 (ap (λ r. range (Err r) c.args.output.now) refused.0))

pub returns-then-is_empty : goal.returns-then-is_empty
unfolding get_range_of
returns-then-is_empty c = simp (c.in_ok-lent.ensures.lent.fine, sym c.is_empty.ensures ∙ c.if-is_empty.true)

pub returns-then-count-start : goal.returns-then-count-start
unfolding get_range_of
returns-then-count-start c =
    let lent = c.in_ok-lent.ensures.lent in
    let count : c.count-count.result ≡ count_of c.args.self = c.count-count.ensures ∙ ap count_of lent.same_store in
    let past : count_of c.args.self < c.args.start + length c.args.output.now =
    elim c.then-count-start.branch [
      | then-count-start-via-then-count-start w ↦ omega arith
      | then-count-start-via-else-count-start+then-count-start-2 w ↦ omega arith
    ] in
    simp (lent.fine, sym c.is_empty.ensures ∙ c.if-is_empty.false, lt-ltb _ _ past)

pub returns-then-touches_damage : goal.returns-then-touches_damage
unfolding get_range_of
returns-then-touches_damage c =
    let lent = c.in_ok-lent.ensures.lent in
    let count : c.count-count.result ≡ count_of c.args.self = c.count-count.ensures ∙ ap count_of lent.same_store in
    let within : c.args.start + length c.args.output.now ≤ count_of c.args.self = omega arith in
    let touched = simp (lent.same_store, lent.same_entries) at c.touches_damage.ensures in
    simp (lent.fine, sym c.is_empty.ensures ∙ c.if-is_empty.false, le-ltb _ _ within, sym touched ∙ c.if-touches_damage.true)

pub returns : goal.returns
unfolding get_range_of
returns c =
    let lent = c.in_ok-lent.ensures.lent in
    let count : c.count-count.result ≡ count_of c.args.self = c.count-count.ensures ∙ ap count_of lent.same_store in
    let within : c.args.start + length c.args.output.now ≤ count_of c.args.self = omega arith in
    let touched = simp (lent.same_store, lent.same_entries) at c.touches_damage.ensures in
    let read = simp (lent.same_store, lent.same_bytes, lent.same_entries) at c.read_all.ensures in
    simp (lent.fine, sym c.is_empty.ensures ∙ c.if-is_empty.false, le-ltb _ _ within, sym touched ∙ c.if-touches_damage.false)
    (ap (range done) read)
