-- A column that was checked, and what the search's three roads find in it.
use Rattle.std.specs.Prelude.{ℕ, ◌≡◌, false, List}
use Rattle.bitunpacker.specs.declared.BitUnpacker.{BitUnpacker}
use Rattle.bitunpacker.specs.declared.column.Column.{Column}
use Rattle.bitunpacker.specs.Unpacker.{out_of_data, ids_of}

-- The first n values of some data, which lie in it.
pub record IsColumnOf (u : BitUnpacker) (bs : List ℕ) (n : ℕ) (column : Column) : Type 0 where
  pub unpacker : column.unpacker ≡ u
  pub bytes : column.bytes.now ≡ bs
  pub count : column.count ≡ n
  pub inside : out_of_data u n bs ≡ false

-- The ids from `from` to before `to` whose value lies in lo..hi.
abbrev pub ids_in : Column → ℕ → ℕ → ℕ → ℕ → List ℕ
ids_in column lo hi from to = ids_of column.unpacker.num_bits lo hi from to column.bytes.now
