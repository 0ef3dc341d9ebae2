-- The first places of the array are filled with the stretch's values, and their matching ids are kept.
use Rattle.std.proofs.Common.{ℕ, ◌≡◌, ◌-◌, List, ◌++◌, length, take, ap, ◌∙◌, length-take-le, take_at, arith}
use Rattle.bit_rule.specs.Search.{matching_ids}
use Rattle.bitunpacker.proofs.Narrow.{kept_same}
use Rattle.blocked_bitpacker.specs.Store.{none_waiting, values_of}
use Rattle.blocked_bitpacker.specs.Calls.{ids_of}
use Rattle.blocked_bitpacker.proofs.Values.{length-values_of}
use Rattle.blocked_bitpacker.proofs.reading.Lent.find_in_stretch.Goals as goal

-- what was read is the front of the array, once it is back
front_is : (n : ℕ) (read rest values : List ℕ) → read ≡ values → length values ≡ n → take n (read ++ rest) ≡ values
front_is n read rest values is many = take_at read rest n (ap length is ∙ many) ∙ is

pub returns : goal.returns
unfolding ids_of
returns c =
    let s = c.args.self.now in
    let n = c.args.to - c.args.from in
    let values = values_of s.store.now s.bytes.now s.entries.now c.args.from in
    let places : length (take n none_waiting) ≡ n = length-take-le n none_waiting (omega (arith, c.requires.stretch.together)) in
    let front = front_is n c.read_stretch.new.output _ (values n) (c.read_stretch.ensures ∙ ap values places)
    (length-values_of s.store.now s.bytes.now s.entries.now c.args.from n) in
    kept_same (ap (matching_ids c.args.lo c.args.hi c.args.from) front) c.keep.ensures
