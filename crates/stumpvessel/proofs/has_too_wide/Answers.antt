-- `any` of the words' test is the definition over their numbers.
use Rattle.std.proofs.Common.{◌∙◌, ◌^◌, leb, rules, tests}
use Rattle.std.specs.Int.{from_le_bytes, w64}
use Rattle.std.proofs.lemmas.Iterator.{YieldsList-from_slice}
use Rattle.std.proofs.lemmas.Iterator.Search.{any_from_yields_List}
use Rattle.stumpvessel.proofs.Words.{any_word}
use Rattle.stumpvessel.proofs.has_too_wide.Goals as goal

pub returns : goal.returns
returns c =
    any_from_yields_List (λ word. leb (2 ^ c.args.width) (from_le_bytes w64 word)) _ _ _ c.any.ensures.ran (YieldsList-from_slice c.args.words.now cc)
    (λ x b q k. search (rules, tests))
    ∙ any_word c.args.width c.args.words.now
