-- The place that is found is that of the first byte that is no digit.
use Rattle.std.proofs.Common.{◌≡◌, ◌<◌, ℕ, Bool, true, false, not, cond, ltb, length, Option, Some, None, SomeIff, refl, ap, ◌∙◌, arith, rules, tests, ltb-true, ltb-false}
use Rattle.std.proofs.lemmas.Iterator.{YieldsList-from_slice}
use Rattle.std.proofs.lemmas.Iterator.Search.{position_from_yields_List}
use Rattle.decimal.specs.Digits.{is_digit, first_other}
use Rattle.decimal.proofs.Laws.{other_is}
use Rattle.decimal.proofs.first_other.Goals as goal

there : (m n : ℕ) (found : Option ℕ) → found ≡ cond (ltb m n) (Some m) None → SomeIff found (m < n) m
there m n found is = by_test (ltb m n) found refl is
  where
    by_test : (t : Bool) (found : Option ℕ) → ltb m n ≡ t → found ≡ cond t (Some m) None → SomeIff found (m < n) m
    by_test true None test here = absurd cc
    by_test true (Some x) test here = (ltb-true m n test, cc)
    by_test false None test here = λ below. omega (arith, ltb-false m n test)
    by_test false (Some x) test here = absurd cc

pub returns : goal.returns
returns c =
    let text = c.args.text.now in
    there (first_other text) (length text) _
    (position_from_yields_List (λ b. not (is_digit b)) _ _ c.position.result c.position.ensures.ran (YieldsList-from_slice text cc) (λ x b q k. search (rules, tests))
    ∙ ap (λ n. cond (ltb n (length text)) (Some n) None) (other_is text))
