-- The two refusals for entries are the definition's first check; the block's own answer, refused for room or sealed, is then carried from the
-- part at the used offset to the whole areas (`seal_without_room`, `seal_with_room`).
use Rattle.std.proofs.Common.{ℕ, ◌≤◌, List, length, arith}
use Rattle.bit_rule.proofs.Parts.{rest_from, length-rest_from}
use Rattle.blocked_bitpacker.proofs.Changing.{SealedIn, block_narrow, sealed_in, not_sealed_in, past_the_limit, past_the_words, seal_without_room, seal_with_room}
use Rattle.blocked_bitpacker.proofs.BlockedBitpacker.seal.Goals as goal
use Rattle.blocked_bitpacker.proofs.BlockedBitpacker.seal.Goals.{then-blocks-ge-MAX_BLOCKS-via-then-blocks-ge-MAX_BLOCKS, then-blocks-ge-MAX_BLOCKS-via-else-blocks-ge-MAX_BLOCKS+then-entries-at}

-- what sealing in the part answered is small
narrow : (vs : List ℕ) {part after : List ℕ} {base width size : ℕ} → SealedIn vs part base width size after → width ≤ 64
narrow vs done = omega (arith, done.width_is, block_narrow vs)

small_size : (used : ℕ) (bytes : List ℕ) {vs after : List ℕ} {base width size : ℕ} → SealedIn vs (rest_from used bytes) base width size after → size ≤ length bytes
small_size used bytes done = omega (arith, done.size_is, done.room, length-rest_from used bytes)

pub returns-then-blocks-ge-MAX_BLOCKS : goal.returns-then-blocks-ge-MAX_BLOCKS
returns-then-blocks-ge-MAX_BLOCKS c =
    simp c.refused.ensures
    (elim c.then-blocks-ge-MAX_BLOCKS.branch [
      | then-blocks-ge-MAX_BLOCKS-via-then-blocks-ge-MAX_BLOCKS w ↦ past_the_limit _ _ _ _ _ c.requires w.if-blocks-ge-MAX_BLOCKS.true
      | then-blocks-ge-MAX_BLOCKS-via-else-blocks-ge-MAX_BLOCKS+then-entries-at w ↦
          past_the_words _ _ _ _ _ c.requires w.if-blocks-ge-MAX_BLOCKS.false w.if-entries-at.true
    ])

pub overflow_mul-entries : goal.overflow_mul-entries
overflow_mul-entries c =
    omega (arith, narrow c.args.values.now (sealed_in _ _ _ _ _ _ _ c.seal.ensures c.in-Ok.is))

pub overflow_add-entries : goal.overflow_add-entries
overflow_add-entries c =
    omega (arith, narrow c.args.values.now (sealed_in _ _ _ _ _ _ _ c.seal.ensures c.in-Ok.is))

pub overflow_add-result : goal.overflow_add-result
overflow_add-result c =
    omega (arith, small_size c.args.self.now.used c.args.bytes.now (sealed_in _ _ _ _ _ _ _ c.seal.ensures c.in-Ok.is))

pub returns-in-Err : goal.returns-in-Err
returns-in-Err c =
    simp c.refused-in-Err.ensures
    (seal_without_room _ _ _ _ _ c.requires c.if-blocks-ge-MAX_BLOCKS.false c.if-entries-at.false _ _
    (not_sealed_in _ _ _ _ _ c.seal.ensures c.in-Err.is))

pub returns-in-Ok : goal.returns-in-Ok
returns-in-Ok c =
    seal_with_room _ _ _ _ _ c.requires c.if-blocks-ge-MAX_BLOCKS.false c.if-entries-at.false _ _ _ _
    (sealed_in _ _ _ _ _ _ _ c.seal.ensures c.in-Ok.is)
