-- A line's number, added: what is refused leaves both areas as they were, and what is accepted is what the store's own add does.
use Rattle.std.specs.Prelude.{Err}
use Rattle.std.proofs.Common.{◌≡◌, ℕ, Bool, true, false, cond, length, refl, ap, arith}
use Rattle.blocked_bitpacker.specs.Calls.{Changed, refused_call, entries_full, add_of}
use Rattle.blocked_bitpacker.specs.Store.{damaged_store}
use Rattle.refusal.specs.declared.Refusal.{Refusal}
use Rattle.refusal.specs.declared.Refusal.TheVariants.{EntriesFull, Damaged}
use Rattle.refusal.specs.Number.{number_of}
use Rattle.refusal.specs.Done.{done}
use Rattle.promises.specs.Reply.{done_reply}
use Rattle.promises.specs.Defined.{Held}
use Rattle.promises.specs.Histories.{add, outcome_of, left_by}
use Rattle.promises.proofs.Refusing.{a_refusal_changes_nothing}
use Rattle.terms.specs.Loading.{add_line_of}

-- one check more in front
checked : {A : Type 0} (Fine : A → Type 0) (test : Bool) (a b : A) → Fine a → Fine b → Fine (cond test a b)
checked Fine true a b first others = first
checked Fine false a b first others = others

module _ (h : Held) (v : ℕ) where
  abbrev pub addLineIn : Changed
  addLineIn = add_line_of h.store v h.bytes h.entries

  abbrev addIn : Changed
  addIn = add_of h.store v h.bytes h.entries

  -- by what holds of every refusal, and of the store's own add
  each_check : (Fine : Changed → Type 0) → ((why : Refusal) → Fine (refused_call why h.store h.bytes h.entries)) → Fine addIn → Fine addLineIn
  unfolding add_line_of
  each_check Fine refused added =
      checked Fine (damaged_store h.store (length h.bytes) (length h.entries)) _ _ (refused Damaged)
      (checked Fine (entries_full h.store h.entries) _ _ (refused EntriesFull) added)

  -- the areas where something is refused
  unfoldable Keeps : Changed → Type 0
  Keeps c = (why : Refusal) → c.stored.done ≡ Err why → (c.bytes ≡ h.bytes) × (c.entries ≡ h.entries)

  pub refused_keeps : (why : Refusal) → addLineIn.stored.done ≡ Err why → (addLineIn.bytes ≡ h.bytes) × (addLineIn.entries ≡ h.entries)
  unfolding Keeps outcome_of
  refused_keeps = each_check Keeps (λ other why is. (refl, refl)) added
    where
      added : Keeps addIn
      added why is =
          let kept : left_by (add v) h ≡ h = ap (λ o. o.left) (a_refusal_changes_nothing (add v) h (number_of why) (ap done_reply is)) in
          (ap (λ k. k.bytes) kept, ap (λ k. k.entries) kept)

  -- all of it where nothing is
  unfoldable IsAdd : Changed → Type 0
  IsAdd c = c.stored.done ≡ done → c ≡ addIn

  pub accepted_is_add : addLineIn.stored.done ≡ done → addLineIn ≡ addIn
  unfolding IsAdd
  accepted_is_add = each_check IsAdd (λ why is. absurd (let z : ◌≡◌ {A = ℕ} 0 1 = cc in omega arith)) (λ is. refl)
