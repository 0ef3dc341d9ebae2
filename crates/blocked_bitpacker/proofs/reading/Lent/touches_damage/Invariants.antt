-- The invariant: whether a touched block is damaged is whether one from block k on is.
use Rattle.std.proofs.Common.{◌≡◌, ◌-◌}
use Rattle.blocked_bitpacker.specs.Store.{damaged_blocks, touched_damaged}
use Rattle.blocked_bitpacker.proofs.reading.Lent.touches_damage.Given as goal

abbrev pub invariant-loop-k : goal.invariant-loop-k
invariant-loop-k l =
    touched_damaged l.self.store.now l.self.entries.now l.start l.end ≡ damaged_blocks l.self.store.now l.self.entries.now l.k (l.last - l.k)
