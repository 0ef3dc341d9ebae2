-- Document 01, "Numbers of refusal": the name of each, as it is printed.
use Rattle.std.specs.Prelude.{ℕ, List, codes}
use Rattle.refusal.specs.declared.Refusal.{Refusal}
use Rattle.refusal.specs.declared.Refusal.TheVariants.{BadWidth, TooWide, OutOfData, NoRoom, EntriesFull, Closed, NoSuchIndex, Damaged}

abbrev pub name_of : Refusal → List ℕ
name_of BadWidth = codes "BadWidth"
name_of TooWide = codes "TooWide"
name_of OutOfData = codes "OutOfData"
name_of NoRoom = codes "NoRoom"
name_of EntriesFull = codes "EntriesFull"
name_of Closed = codes "Closed"
name_of NoSuchIndex = codes "NoSuchIndex"
name_of Damaged = codes "Damaged"
