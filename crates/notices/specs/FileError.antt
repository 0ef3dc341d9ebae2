-- Why a file cannot be opened or read, by the system's number: 2 (ENOENT), 13 (EACCES), 21 (EISDIR), or any other, or none; and what is
-- said of each.
use Rattle.std.specs.Prelude.{◌≡◌, ◌↔◌, ℕ, ℤ, pos, List, codes, Option, Some}
use Rattle.notices.specs.declared.refuse.FileError.{FileError}
use Rattle.notices.specs.declared.refuse.FileError.TheVariants.{Missing, Denied, Folder, Other}

pub record IsTold (number : Option ℤ) (why : FileError) : Type 0 where
  pub missing : (why ≡ Missing) ↔ (number ≡ Some (pos 2))
  pub denied : (why ≡ Denied) ↔ (number ≡ Some (pos 13))
  pub folder : (why ≡ Folder) ↔ (number ≡ Some (pos 21))

abbrev pub sentence_of : FileError → List ℕ
sentence_of Missing = codes "there is no such file; check its name"
sentence_of Denied = codes "it may not be read; ask for the right to read it"
sentence_of Folder = codes "it is a folder; name a file in it"
sentence_of Other = codes "the system cannot open or read it; check its name, or try a copy in another place"
