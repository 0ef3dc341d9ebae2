-- Every byte is a digit, so `append` answers with the number of one digit more, or that it is too large, and then the whole is no smaller.
use Rattle.std.proofs.Common.{◌≡◌, ℕ, ◌+◌, ◌*◌, ◌^◌, ◌<◌, true, List, length, get_or, take, Ok, Err, sym, refl, ap, ◌∙◌, ⊎_elim, arith, take_all, le-leb}
use Rattle.std.proofs.lemmas.Result.{err_from_is_err_and}
use borrow.Author.Tests.{lt-leb}
use Rattle.bit_rule.proofs.Width.{le_or_lt}
use Rattle.decimal.specs.declared.NumeralError.{NumeralError}
use Rattle.decimal.specs.Digits.{is_digit, digit_of, first_other, numeral, append_of, number_or_too_large}
use Rattle.decimal.proofs.Laws.{digit_below, numeral_next, numeral_first, append_fits, append_too_large}
use Rattle.decimal.proofs.number.Goals as goal

module _ (text : List ℕ) (i value : ℕ) (within : i < length text) (all : first_other text ≡ length text) (so_far : value ≡ numeral (take i text)) where
  abbrev more : ℕ
  more = value * 10 + digit_of (get_or text i 0)

  digit : is_digit (get_or text i 0) ≡ true
  digit = digit_below text i (omega arith)

  -- the number of one digit more
  next : numeral (take (i + 1) text) ≡ more
  next = numeral_next text i within ∙ ap (λ n. n * 10 + digit_of (get_or text i 0)) (sym so_far)

  refused : (why : NumeralError) → Err why ≡ append_of value (get_or text i 0) → Err why ≡ number_or_too_large text
  unfolding number_or_too_large
  refused why is =
      ⊎_elim
      (λ large.
      is ∙ append_too_large value (get_or text i 0) digit large ∙ sym (simp (le-leb (2 ^ 64) (numeral text) (omega (arith, next, numeral_first text (i + 1))))))
      (λ fits. absurd (let no = is ∙ append_fits value (get_or text i 0) digit fits in cc))
      (le_or_lt (2 ^ 64) more)

  appended : (n : ℕ) → Ok n ≡ append_of value (get_or text i 0) → (n ≡ numeral (take (i + 1) text)) × (n < 2 ^ 64)
  appended n is =
      ⊎_elim
      (λ large. absurd (let no = is ∙ append_too_large value (get_or text i 0) digit large in cc))
      (λ fits. let same : n ≡ more = (let yes = is ∙ append_fits value (get_or text i 0) digit fits in cc) in (same ∙ sym next, omega arith))
      (le_or_lt (2 ^ 64) more)

pub loop-byte-init : goal.loop-byte-init
unfolding numeral
loop-byte-init c = (refl, omega arith)

pub returns-in_err-value : goal.returns-in_err-value
returns-in_err-value c =
    let said = err_from_is_err_and c.from_residual.result c.from_residual.ensures.1 in
    rw (said.1, said.2) (refused c.args.text.now c.loop-byte.byte-index c.loop-byte.value c.loop-byte-test.true c.requires c.loop-byte.invariant.0 _ c.in_err-value.ensures)

pub loop-byte-preserved : goal.loop-byte-preserved
loop-byte-preserved c =
    appended c.args.text.now c.loop-byte.byte-index c.loop-byte.value c.loop-byte-test.true c.requires c.loop-byte.invariant.0 _ c.in_ok-value.ensures

pub returns : goal.returns
unfolding number_or_too_large
returns c =
    let text = c.args.text.now in
    let all : c.loop-byte.value ≡ numeral text = c.loop-byte.invariant.0 ∙ ap numeral (take_all c.loop-byte.byte-index text c.loop-byte-test.false) in
    ap Ok all ∙ sym (simp (lt-leb (2 ^ 64) (numeral text) (omega (arith, c.loop-byte.invariant.1))))
