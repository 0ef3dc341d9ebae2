-- The filter of the Rust's src/filter_vec/scalar.rs: the ids of the values that lie in lo..hi take the place of the values, from the start.
-- The id of the value at i is offset + i, and all ids are u32, so only the first 2^32 - offset values have one.
use Rattle.std.specs.Prelude.{ℕ, ◌-◌, ◌^◌, List, length, take}
use Rattle.bit_rule.specs.Search.{matching_ids, at_start}

-- How many ids were found, and what the lent slice then holds.
pub record Filtered : Type 0 where
  pub count : ℕ
  pub left : List ℕ

abbrev pub filtered : ℕ → List ℕ → Filtered
filtered count left = record { count = count; left = left }

unfoldable pub filter_of : ℕ → ℕ → ℕ → List ℕ → Filtered
filter_of lo hi offset vals =
    let ids = matching_ids lo hi offset (take (2 ^ 32 - offset) vals) in
    filtered (length ids) (at_start ids vals)
