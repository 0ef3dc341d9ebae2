-- The eight bytes that are copied are the eight of the word.
use Rattle.std.proofs.Common.{ap, ◌∙◌, ◌++◌, drop}
use Rattle.bit_rule.proofs.Bytes.{word_bytes}
use Rattle.bitpacker.proofs.store_word.Goals as goal

pub returns : goal.returns
returns c = ap (λ l. l ++ drop 8 c.args.output.now) (c.copy_from_slice.ensures.after ∙ c.to_le_bytes.ensures ∙ word_bytes c.args.x)
