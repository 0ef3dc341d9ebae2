-- Document 01, "Numbers of refusal": the table's first two columns. Document 02 adds 9 to 12 at the end, and renumbers nothing.
use Rattle.std.specs.Prelude.{ℕ}
use Rattle.refusal.specs.declared.Refusal.{Refusal}
use Rattle.refusal.specs.declared.Refusal.TheVariants.{BadWidth, TooWide, OutOfData, NoRoom, EntriesFull, Closed, NoSuchIndex, Damaged}

abbrev pub number_of : Refusal → ℕ
number_of BadWidth = 1
number_of TooWide = 2
number_of OutOfData = 3
number_of NoRoom = 4
number_of EntriesFull = 5
number_of Closed = 6
number_of NoSuchIndex = 7
number_of Damaged = 8
