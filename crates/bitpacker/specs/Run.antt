-- A whole run: values with their widths are written one after the other, each to the part of the output after what was emitted, and then the
-- packer is flushed. The count of an unrefused run is that of all bytes emitted.
use Rattle.std.specs.Prelude.{ℕ, ◌+◌, List, [], ◌∷◌, ◌++◌, take, drop, Ok, Err, Result}
use Rattle.refusal.specs.declared.Refusal.{Refusal}
use Rattle.bit_rule.specs.Stream.{Piece}
use Rattle.bitpacker.specs.declared.BitPacker.{BitPacker}
use Rattle.bitpacker.specs.declared.Written.{Written}
use Rattle.bitpacker.specs.Packer.{Outcome, outcome, emitting, fresh, write_of, flush_of}

-- A call on the part from `at` on leaves the bytes before it.
abbrev pub after_part : ℕ → List ℕ → Outcome → List ℕ
after_part at out o = take at out ++ o.output

-- A run goes on after a call that was not refused, and ends with one that was.
abbrev pub go_on : Result Written Refusal → (BitPacker → ℕ → Outcome) → List ℕ → Outcome
go_on (Ok w) next out = next w.packer w.emitted
go_on (Err why) next out = outcome (Err why) out

-- `at` bytes were emitted so far.
unfoldable pub run_from : List Piece → BitPacker → ℕ → List ℕ → Outcome
run_from [] p at out =
    let o = flush_of p (drop at out) in
    go_on o.answer (λ q n. outcome (emitting q (at + n)) (after_part at out o)) (after_part at out o)
run_from (x ∷ xs) p at out =
    let o = write_of p x.value x.width (drop at out) in
    go_on o.answer (λ q n. run_from xs q (at + n) (after_part at out o)) (after_part at out o)

unfoldable pub pack_of : List Piece → List ℕ → Outcome
pack_of ps out = run_from ps fresh 0 out
