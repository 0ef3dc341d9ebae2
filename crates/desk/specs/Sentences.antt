-- What is printed of a word and of a fault: the word by its number, and by its name on the help page where it has one; which word is wrong,
-- and what to do about it.
use Rattle.std.specs.Prelude.{ℕ, List, ◌++◌, codes, decimal}
use Rattle.desk.specs.declared.words.Word.{Word}
use Rattle.desk.specs.declared.words.Word.TheVariants.{Verb, Terms, Id, Lo, Hi, From, To}
use Rattle.desk.specs.declared.words.Fault.{Fault}
use Rattle.desk.specs.declared.words.Fault.TheVariants.{TooLong, Missing, NoVerb, TooMany, NotANumber, LoAboveHi, FromNotBelowTo}

abbrev pub name_of : Word → List ℕ
name_of Verb = codes "word 1"
name_of Terms = codes "word 2 (TERMS)"
name_of Id = codes "word 3 (ID)"
name_of Lo = codes "word 3 (LO)"
name_of Hi = codes "word 4 (HI)"
name_of From = codes "word 5 (FROM)"
name_of To = codes "word 6 (TO)"

abbrev pub sentence_of : Fault → List ℕ
sentence_of (TooLong number) = codes "word " ++ decimal number ++ codes " is longer than 4096 bytes"
sentence_of (Missing word) = name_of word ++ codes " is missing"
sentence_of NoVerb = codes "word 1 is none of list, get, show, help, --version"
sentence_of (TooMany number) = codes "word " ++ decimal number ++ codes " is one too many"
sentence_of (NotANumber word) = name_of word ++ codes " is no number: write digits only, and a number below 18446744073709551616"
sentence_of LoAboveHi = codes "word 3 (LO) is above word 4 (HI), and no value lies in between: put the lower one first"
sentence_of FromNotBelowTo = codes "word 5 (FROM) is not below word 6 (TO), which is not included: no id lies in between"
