-- What the entry of a block says; an entry that is not there is refused 7.
use Rattle.std.specs.Prelude.{ℕ, ◌/◌, Bool, List, [], ◌∷◌, leb, length, Ok, Err, Result}
use Rattle.refusal.specs.declared.Refusal.{Refusal}
use Rattle.refusal.specs.First.{check, first_that_holds}
use Rattle.refusal.specs.declared.Refusal.TheVariants.{NoSuchIndex}
use Rattle.block.specs.Block.{words_per_entry, entry_width, entry_base}

abbrev pub no_entry : ℕ → List ℕ → Bool
no_entry k entries = leb (length entries / words_per_entry) k

unfoldable pub block_width_of : ℕ → List ℕ → Result ℕ Refusal
block_width_of k entries = first_that_holds (check (no_entry k entries) (Err NoSuchIndex) ∷ []) (Ok (entry_width k entries))

unfoldable pub block_base_of : ℕ → List ℕ → Result ℕ Refusal
block_base_of k entries = first_that_holds (check (no_entry k entries) (Err NoSuchIndex) ∷ []) (Ok (entry_base k entries))
