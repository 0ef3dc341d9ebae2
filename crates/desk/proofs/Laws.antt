-- A search over any two numbers, by one over ids of 32 bits: an empty range finds nothing wherever it lies, and a range that ends past every
-- store's count is refused wherever it starts. And what is asked for depends on what was read alone.
use Rattle.std.specs.Prelude.{Err, Option, Result, is_some, unwrap_or}
use mathlib.Core.Path.{◌≡◌, refl, sym, ap, ◌∙◌}
use mathlib.Core.Bool.{Bool, true, false, cond}
use mathlib.Core.List.{List}
use mathlib.Core.Logic.{◌⊎◌, inl, inr, ⊎_elim}
use Prim.Native.Nat.{ℕ, ◌-◌, ◌^◌, ◌≤◌, ◌<◌}
use native.Mathlib.Omega.{arith}
use lib.Dec.{eqb}
use lib.ListN.{length}
use borrow.Author.Tests.{le-leb, lt-leb, lt-ltb}
use Rattle.blocked_bitpacker.specs.declared.BlockedBitpacker.{BlockedBitpacker}
use Rattle.blocked_bitpacker.specs.Store.{damaged_store, count_of}
use Rattle.refusal.specs.declared.Refusal.{Refusal}
use Rattle.bitunpacker.specs.Unpacker.{search}
use Rattle.blocked_bitpacker.specs.Calls.{counted_of, search_of}
use Rattle.blocked_bitpacker.proofs.Judged.{judged}
use Rattle.blocked_bitpacker.proofs.Values.{count_small}
use Rattle.blocked_bitpacker.proofs.Counting.{not_counted as refused-count}
use Rattle.desk.specs.declared.words.Fault.{Fault}
use Rattle.desk.specs.declared.words.Fault.TheVariants.{TooLong, Missing}
use Rattle.desk.specs.declared.words.Request.{Request}
use Rattle.desk.specs.declared.words.Verb.{Verb}
use Rattle.desk.specs.declared.words.Word.TheVariants.{Verb as theVerb}
use Rattle.desk.specs.Words.{verb_of, request_by, request_of}

true_or_false : (t : Bool) → (t ≡ true) ⊎ (t ≡ false)
true_or_false true = inl refl
true_or_false false = inr refl

module _ (s : BlockedBitpacker) (lo hi : ℕ) (bytes entries positions : List ℕ) where
  pub empty_range : (from to : ℕ) → to ≤ from → search_of s lo hi 0 0 bytes entries positions ≡ search_of s lo hi from to bytes entries positions
  unfolding search_of
  empty_range from to empty = simp (le-leb to from empty)

  pub past_every_count : (from to : ℕ) → from < to → 2 ^ 32 ≤ to
      → search_of s lo hi 0 (2 ^ 32 - 1) bytes entries positions ≡ search_of s lo hi from to bytes entries positions
  unfolding search_of
  past_every_count from to some far =
      ⊎_elim
      (λ (damaged : damaged_store s (length bytes) (length entries) ≡ true). simp damaged)
      (λ (fine : damaged_store s (length bytes) (length entries) ≡ false).
      let few = count_small s (judged s (length bytes) (length entries) fine).sound in
      simp (fine, lt-leb to from some, lt-ltb (count_of s) to (omega arith), lt-ltb (count_of s) (2 ^ 32 - 1) (omega arith)))
      (true_or_false (damaged_store s (length bytes) (length entries)))

  -- a store that cannot be counted cannot be searched, for the same reason
  pub not_counted : (why : Refusal) (end : ℕ) → counted_of s bytes entries ≡ Err why
      → search (Err why) positions ≡ search_of s lo hi 0 end bytes entries positions
  unfolding search_of
  not_counted why end is = let said = refused-count s bytes entries why is in simp (said.0, said.1)

-- ---- what is asked for, from the parts that were read

module _ (count : ℕ) (long : Option ℕ) (word third fourth fifth sixth : List ℕ) {verb : Option Verb} (is : verb ≡ verb_of word) where
  pub asked_by : cond (is_some long) (Err (TooLong (unwrap_or long 0))) (cond (eqb count 0) (Err (Missing theVerb)) (request_by verb count third fourth fifth sixth))
      ≡ request_of count long word third fourth fifth sixth
  unfolding request_of
  asked_by =
      ap
      (λ v. cond (is_some long) (Err (TooLong (unwrap_or long 0))) (cond (eqb count 0) (Err (Missing theVerb)) (request_by v count third fourth fifth sixth)))
      is

  -- a fault that was found is what is answered
  pub wrong_asked : {fault : Fault} → cond (is_some long) (Err (TooLong (unwrap_or long 0))) (cond (eqb count 0) (Err (Missing theVerb)) (request_by verb count third fourth fifth sixth)) ≡ Err fault
      → Err fault ≡ request_of count long word third fourth fifth sixth
  wrong_asked wrong = sym wrong ∙ asked_by

  -- and past the first two checks it is what the verb asks for
  pub right_asked : {request : Result Request Fault} → is_some long ≡ false → eqb count 0 ≡ false → request ≡ request_by verb count third fourth fifth sixth
      → request ≡ request_of count long word third fourth fifth sixth
  right_asked short some is-request =
      is-request
      ∙ sym (simp (short, some))
      ∙ asked_by
