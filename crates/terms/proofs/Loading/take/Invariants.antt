-- What is left of the text leads from the loading with the line, and the areas, as they are where the whole leads from the beginning; and
-- nothing has stopped it. Each turn is one byte of the definition.
use Rattle.std.proofs.Common.{◌≡◌, false, is_some, drop}
use Rattle.terms.specs.Loading.{bytes_of}
use Rattle.terms.proofs.Laws.{with_line}
use Rattle.terms.proofs.Loading.take.Given as goal

abbrev pub invariant-loop-byte : goal.invariant-loop-byte
invariant-loop-byte l =
    (bytes_of (with_line l.loading l.line) (drop l.byte-index l.text) l.bytes l.entries ≡ bytes_of l.fn.self l.text l.initial.bytes l.initial.entries)
    × (is_some l.loading.trouble ≡ false)
