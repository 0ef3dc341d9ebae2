-- The invariant: up to where block k begins the output holds the values from the start on. A turn puts the block's part behind them
-- (`fill_next`).
use Rattle.std.proofs.Common.{◌≡◌, ◌-◌, ◌*◌, max, min, take}
use Rattle.blocked_bitpacker.specs.Store.{values_of}
use Rattle.blocked_bitpacker.proofs.reading.Lent.read_all.Given as goal

abbrev pub invariant-loop-k : goal.invariant-loop-k
invariant-loop-k l =
    let done = min l.end (max l.start (128 * l.k)) - l.start in
    take done l.output ≡ values_of l.self.store.now l.self.bytes.now l.self.entries.now l.start done
