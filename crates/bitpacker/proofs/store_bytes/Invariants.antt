-- After so many turns so many of the lowest bytes of x stand at the front, and `rest` is x without them.
use Rattle.std.proofs.Common.{◌≡◌, ◌/◌, ◌^◌, ◌++◌, drop}
use Rattle.bit_rule.specs.Bytes.{bytes_of}
use Rattle.bitpacker.proofs.store_bytes.Given as goal

abbrev pub invariant-loop-place : goal.invariant-loop-place
invariant-loop-place l =
    (l.rest ≡ l.x / 256 ^ l.place-index) × (l.place-items ≡ bytes_of l.place-index l.x ++ drop l.place-index l.initial.place-items)
