-- From the end backwards: before each turn `value` is the number of the bytes from i on.
use Rattle.std.proofs.Common.{◌≡◌, ◌≤◌, length, drop, min}
use Rattle.bit_rule.specs.Bytes.{number}
use Rattle.bitunpacker.proofs.bits.load_tail.Given as goal

abbrev pub invariant-loop-i : goal.invariant-loop-i
invariant-loop-i l = record {
  within : l.i ≤ length l.bytes;
  not_before : min l.at (length l.bytes) ≤ l.i;
  is : l.value ≡ number (drop l.i l.bytes);
}
