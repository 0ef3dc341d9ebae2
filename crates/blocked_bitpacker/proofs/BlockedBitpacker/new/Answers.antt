-- On eight bytes or more `clear_eight` writes the zeros; on fewer nothing is written, and a fresh store is carried.
use Rattle.std.proofs.Common.{lt-ltb}
use Rattle.blocked_bitpacker.specs.Calls.{new_of}
use Rattle.blocked_bitpacker.proofs.Changing.{made_fresh}
use Rattle.blocked_bitpacker.proofs.BlockedBitpacker.new.Goals as goal

pub returns-then-bytes-lt8 : goal.returns-then-bytes-lt8
unfolding new_of
returns-then-bytes-lt8 c = simp (lt-ltb _ _ c.if-bytes-lt8.true, c.refused.ensures, c.fresh-store.ensures)

pub returns : goal.returns
returns c = made_fresh _ c.if-bytes-lt8.false _ c.fresh-store.ensures _ c.clear_eight.ensures
