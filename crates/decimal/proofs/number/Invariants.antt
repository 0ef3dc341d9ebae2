-- value is the number that the bytes so far stand for.
use Rattle.std.proofs.Common.{◌≡◌, ◌<◌, ◌^◌, take}
use Rattle.decimal.specs.Digits.{numeral}
use Rattle.decimal.proofs.number.Given as goal

abbrev pub invariant-loop-byte : goal.invariant-loop-byte
invariant-loop-byte l = (l.value ≡ numeral (take l.byte-index l.text)) × (l.value < 2 ^ 64)
