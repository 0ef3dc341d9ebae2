-- Behind the other checks the byte is a digit, so the number so far is appended to, or is too large.
use Rattle.std.proofs.Common.{◌≡◌, ◌+◌, ◌%◌, ◌^◌, true, false, None, sym, ap, ◌∙◌, rules, tests}
use Rattle.decimal.specs.Digits.{is_digit}
use Rattle.decimal.specs.Line.{line_of}
use Rattle.decimal.proofs.Laws.{byte_is_digit, added}
use Rattle.decimal.proofs.line.Line.byte.Goals as goal

pub returns : goal.returns
returns c =
    let line = c.args.self in
    let digit : is_digit c.args.byte ≡ true = search (rules, tests) in
    c.with_digit.ensures
    ∙ ap (λ v. line_of ((line.digits + 1) % 2 ^ 64) v false None) (added _ c.and_then.result c.args.byte digit c.and_then.ensures (λ none. none) (λ n is. search rules))
    ∙ sym (byte_is_digit line c.args.byte (sym c.is_some.ensures ∙ c.if-is_some.false) c.if-self.false digit)
