-- No more ids are found than indexes are passed (`kept_few`), so that those to come have room. Those of the next block's part stand behind the
-- ones found before (`kept_behind`), and are with them those of both (`ids_add`).
use Rattle.std.proofs.Common.{ℕ, List, ◌≡◌, ◌+◌, ◌*◌, ◌≤◌, max, min, length, ap, ◌∙◌, zero-le, arith}
use borrow.Rule.Slice.PartMut.{mid_len}
use Rattle.bitunpacker.proofs.Narrow.{kept_same, kept_more, kept_empty}
use Rattle.blocked_bitpacker.specs.Calls.{ids_of}
use Rattle.blocked_bitpacker.proofs.Values.{stretch_of_block}
use Rattle.blocked_bitpacker.proofs.Searching.{kept_few, ids_add, ids_none, kept_behind}
use Rattle.blocked_bitpacker.proofs.reading.Lent.find.Goals as goal

pub loop-k-init : goal.loop-k-init
loop-k-init c =
    let s = c.args.self.now in
    kept_empty 0 c.args.positions.now (ids_none s.store.now c.args.lo c.args.hi s.bytes.now s.entries.now c.args.start _ (omega arith))

pub find_in_stretch-found-requires-clause-stretch : goal.find_in_stretch-found-requires-clause-stretch
find_in_stretch-found-requires-clause-stretch c =
    let s = c.args.self.now in
    stretch_of_block s.store.now s.entries.now c.args.start c.args.end c.loop-k.k c.max-from.result _ c.requires.fine c.requires.range.2
    c.requires.range.0 c.loop-k.auto.k (omega arith) c.max-from.ensures
    (omega arith)

pub find_in_stretch-found-requires-clause-ids : goal.find_in_stretch-found-requires-clause-ids
find_in_stretch-found-requires-clause-ids c =
    let s = c.args.self.now in
    let found = c.loop-k.found in
    let positions = c.loop-k.positions in
    let few = kept_few s.store.now c.args.lo c.args.hi s.bytes.now s.entries.now c.args.start _ c.loop-k.invariant in
    let ordered : c.max-from.result ≤ c.min-to.result =
    omega arith in
    let room : found ≤ length positions = omega (arith, few, c.loop-k.auto.positions, c.requires.room) in
    let rest = mid_len found (length positions) positions (omega arith) in
    (ordered, omega arith, omega (arith, few, rest))

pub loop-k-preserved : goal.loop-k-preserved
loop-k-preserved c =
    let s = c.args.self.now in
    let start = c.args.start in
    let end = c.args.end in
    let k = c.loop-k.k in
    let from = c.max-from.result in
    let to = c.min-to.result in
    let ids : ℕ → List ℕ = λ at. ids_of s.store.now c.args.lo c.args.hi start at s.bytes.now s.entries.now in
    let few = kept_few s.store.now c.args.lo c.args.hi s.bytes.now s.entries.now start _ c.loop-k.invariant in
    let within : c.loop-k.found ≤ length c.loop-k.positions = omega (arith, few, c.loop-k.auto.positions, c.requires.room) in
    let here : min end (max start (128 * k)) ≡ from = omega arith in
    let next : to ≡ min end (max start (128 * (k + 1))) = omega arith in
    let both = ids_add s.store.now c.args.lo c.args.hi s.bytes.now s.entries.now start from to (omega arith)
    (omega arith) in
    kept_same (both ∙ ap ids next) (kept_more zero-le (kept_same (ap ids here) c.loop-k.invariant) (kept_behind within c.find_in_stretch-found.ensures))
