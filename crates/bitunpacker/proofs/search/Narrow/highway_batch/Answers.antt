-- The part of the data at the batch's first byte holds the column from `from` on, so its first 32 values are those that are asked for.
use Rattle.std.proofs.Common.{◌≡◌, ◌+◌, ◌-◌, ap, ◌∙◌, arith}
use Rattle.std.proofs.lemmas.List.{map-id}
use Rattle.bit_rule.specs.Place.{values_from}
use Rattle.bit_rule.specs.Search.{matching_ids}
use Rattle.bitunpacker.specs.Unpacker.{ids_of}
use Rattle.bitunpacker.proofs.Narrow.{part_of, part_values, kept_same}
use Rattle.bitunpacker.proofs.search.Narrow.highway_batch.Goals as goal

pub slice_bounds-part-count : goal.slice_bounds-part-count
slice_bounds-part-count c = (part_of c.args.from 32 c.args.self.now.column.in_data c.requires.within.0 c.requires.within.1).starts

pub slice_bounds-part-start : goal.slice_bounds-part-start
slice_bounds-part-start c = (part_of c.args.from 32 c.args.self.now.column.in_data c.requires.within.0 c.requires.within.1).starts

pub invariant_of-part : goal.invariant_of-part
invariant_of-part c = record { in_data = (part_of c.args.from 32 c.args.self.now.column.in_data c.requires.within.0 c.requires.within.1).in_data }

pub returns : goal.returns
unfolding ids_of
returns c =
    let column = c.args.self.now.column in
    let interval = c.args.self.now.interval in
    let from = c.args.from in
    let w = column.unpacker.num_bits in
    let count : 32 ≡ from + 32 - from = omega arith in
    kept_same
    (ap (matching_ids interval.lo interval.hi from)
    (c.fill.ensures
    ∙ map-id _
    ∙ part_values w from 32 column.bytes.now column.in_data.as_bytes c.requires.within.0
    ∙ ap (λ n. values_from w from n column.bytes.now) count))
    c.keep.ensures
