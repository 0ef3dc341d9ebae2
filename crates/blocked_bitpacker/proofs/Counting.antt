-- What a count says of a store: one that is refused, that the store is damaged; any other, that it is not, and how many values it has.
use Rattle.std.specs.Prelude.{Ok, Err}
use mathlib.Core.Path.{◌≡◌, refl}
use mathlib.Core.Bool.{Bool, true, false, cond}
use mathlib.Core.List.{List}
use Prim.Native.Nat.{ℕ}
use native.Mathlib.Omega.{arith}
use lib.ListN.{length}
use Rattle.refusal.specs.declared.Refusal.{Refusal}
use Rattle.refusal.specs.declared.Refusal.TheVariants.{Damaged}
use Rattle.blocked_bitpacker.specs.declared.BlockedBitpacker.{BlockedBitpacker}
use Rattle.blocked_bitpacker.specs.Store.{damaged_store, count_of}
use Rattle.blocked_bitpacker.specs.Calls.{counted_of}

refused_by_the_one_check : (t : Bool) (n : ℕ) (why : Refusal) → cond t (Err Damaged) (Ok n) ≡ Err why
    → (t ≡ true) × (why ≡ Damaged)
refused_by_the_one_check true n why e = (refl, cc)
refused_by_the_one_check false n why e = absurd (let z : ◌≡◌ {A = ℕ} 0 1 = cc in omega arith)

past_the_one_check : (t : Bool) (n m : ℕ) → cond t (Err Damaged) (Ok n) ≡ Ok m → (t ≡ false) × (m ≡ n)
past_the_one_check true n m e = absurd (let z : ◌≡◌ {A = ℕ} 0 1 = cc in omega arith)
past_the_one_check false n m e = (refl, cc)

module _ (s : BlockedBitpacker) (bytes entries : List ℕ) where
  pub not_counted : (why : Refusal) → counted_of s bytes entries ≡ Err why
      → (damaged_store s (length bytes) (length entries) ≡ true) × (why ≡ Damaged)
  unfolding counted_of
  not_counted why e = refused_by_the_one_check _ _ why e

  pub counted : (n : ℕ) → counted_of s bytes entries ≡ Ok n
      → (damaged_store s (length bytes) (length entries) ≡ false) × (n ≡ count_of s)
  unfolding counted_of
  counted n e = past_the_one_check _ _ n e
