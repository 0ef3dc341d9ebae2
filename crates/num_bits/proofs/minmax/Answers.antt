-- The first number is the lowest and the highest of the numbers up to it. One value more is `extremes_more`, and once all are passed the two are
-- those of the list.
use Rattle.std.proofs.Common.{◌≡◌, ℕ, ◌+◌, ◌-◌, ◌≤◌, ◌<◌, List, length, take, drop, get_or, sym, ◌∙◌, arith, length-take, length-drop}
use Rattle.std.proofs.lemmas.List.{get_or-take, get_or-drop}
use lib.Seq.{take_all}
use Rattle.num_bits.proofs.Numbers.{extremes_first, extremes_more, minmax_none, minmax_some}
use Rattle.num_bits.proofs.minmax.Goals as goal

pub returns-in_err-first : goal.returns-in_err-first
returns-in_err-first g c = c.from_residual.ensures ∙ sym (minmax_none _ g.met.T.Ranked.ranks.order _ c.in_err-first.ensures)

pub loop-val-init : goal.loop-val-init
loop-val-init g c =
    let after = c.in_ok-first.first + 1 in
    let none_passed : after + 0 ≡ after = omega arith in
    rw none_passed
    (extremes_first _ g.met.T.Ranked.ranks.order c.args.vals.now c.in_ok-first.first _ c.in_ok-first.ensures c.index-vals-first.is)

-- how long the rest of a list is, and an element of it
length_rest : {A : Type 0} (xs : List A) (n : ℕ) → length (take (length xs - n) (drop n xs)) ≡ length xs - n
length_rest xs n = omega (arith, length-take (length xs - n) (drop n xs), length-drop n xs)

at_rest : {A : Type 0} (xs : List A) (n i : ℕ) (x : A) → i < length xs - n → x ≡ get_or (take (length xs - n) (drop n xs)) i x → x ≡ get_or xs (n + i) x
at_rest xs n i x within read = read ∙ get_or-take (length xs - n) (drop n xs) i x within ∙ get_or-drop n xs i x

pub loop-val-preserved : goal.loop-val-preserved
loop-val-preserved g c =
    let vals = c.args.vals.now in
    let after = c.in_ok-first.first + 1 in
    let i = c.loop-val.val-index in
    let (passed, so_far) = c.loop-val.invariant in
    let within : i < length vals - after = omega (arith, c.loop-val-test.true, length_rest vals after) in
    let next : after + (i + 1) ≡ after + i + 1 = omega arith in (
      omega arith,
      rw (next, c.lower-min_so_far.ensures, c.higher-max_so_far.ensures)
          (extremes_more _ g.met.T.Ranked.ranks.order g.met.T.Ranked.ranks.left_counts g.met.T.Ranked.ranks.right_counts vals (after + i) _ _ _ (omega arith) (at_rest vals after i _ within c.val-item.is) so_far),
    )

pub returns : goal.returns
returns g c =
    let vals = c.args.vals.now in
    let after = c.in_ok-first.first + 1 in
    let (passed, extremes) = c.loop-val.invariant in
    let all_passed : length vals ≤ after + c.loop-val.val-index = omega (arith, c.loop-val-test.false, length_rest vals after) in
    sym (minmax_some _ g.met.T.Ranked.ranks.order vals _ _ (rw (take_all (after + c.loop-val.val-index) vals all_passed) at extremes))
