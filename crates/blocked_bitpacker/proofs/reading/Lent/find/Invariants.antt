-- The invariant: the ids of the matching values before block k are found and stand at the start of the positions. A turn keeps those of the
-- block's part behind them.
use Rattle.std.proofs.Common.{◌*◌, max, min}
use Rattle.bitunpacker.specs.Parts.{Kept}
use Rattle.blocked_bitpacker.specs.Calls.{ids_of}
use Rattle.blocked_bitpacker.proofs.reading.Lent.find.Given as goal

abbrev pub invariant-loop-k : goal.invariant-loop-k
invariant-loop-k l =
    Kept 0 (ids_of l.self.store.now l.lo l.hi l.start (min l.end (max l.start (128 * l.k))) l.self.bytes.now l.self.entries.now) l.initial.positions l.found l.positions
