-- The batch has as many places as the ramp has ids, and its values are those from `from` on.
use Rattle.std.proofs.Common.{◌≡◌, ◌-◌, length, take, ap, ◌∙◌}
use Rattle.std.proofs.lemmas.List.{map-id}
use Rattle.bit_rule.specs.Place.{values_from}
use Rattle.bit_rule.specs.Search.{matching_ids}
use Rattle.bitunpacker.specs.Unpacker.{ids_of}
use Rattle.bitunpacker.proofs.Narrow.{zeros, length_batch, kept_same}
use Rattle.bitunpacker.proofs.search.Narrow.ramp.Goals as goal

pub returns : goal.returns
unfolding ids_of
returns c =
    let column = c.args.self.now.column in
    let interval = c.args.self.now.interval in
    let from = c.args.from in
    let places : length (take (c.args.to - from) zeros) ≡ c.args.to - from = length_batch (c.args.to - from) c.requires.few.0 in
    kept_same
    (ap (matching_ids interval.lo interval.hi from)
    (c.fill.ensures
    ∙ map-id _
    ∙ ap (λ n. values_from column.unpacker.num_bits from n column.bytes.now) places))
    c.keep.ensures
