-- "The first check that holds", both ways: a check gives its answer exactly when it holds and none before it does, and the call does its work
-- exactly when none holds. By induction on the list.
use mathlib.Core.Path.{◌≡◌, refl, ap, ◌∙◌}
use mathlib.Core.Logic.{◌⊎◌, inl, inr}
use mathlib.Core.Bool.{Bool, true, false, cond}
use mathlib.Core.List.{List, [], ◌∷◌, ◌++◌}
use Rattle.refusal.specs.First.{Check, first_that_holds}

-- no check of the list holds
abbrev pub NoneHolds : {A : Type 0} → List (Check A) → Type 0
NoneHolds [] = Unit {0}
NoneHolds (c ∷ cs) = (c.test ≡ false) × NoneHolds cs

pub none_holds : {A : Type 0} (cs : List (Check A)) (otherwise : A) → NoneHolds cs → first_that_holds cs otherwise ≡ otherwise
none_holds [] otherwise h = refl
none_holds (c ∷ cs) otherwise h =
    ap (λ t. cond t c.answer (first_that_holds cs otherwise)) h.0 ∙ none_holds cs otherwise h.1

pub first_holds : {A : Type 0} (before : List (Check A)) (c : Check A) (after : List (Check A)) (otherwise : A)
    → NoneHolds before → c.test ≡ true → first_that_holds (before ++ c ∷ after) otherwise ≡ c.answer
first_holds [] c after otherwise h holds = ap (λ t. cond t c.answer (first_that_holds after otherwise)) holds
first_holds (b ∷ before) c after otherwise h holds =
    ap (λ t. cond t b.answer (first_that_holds (before ++ c ∷ after) otherwise)) h.0 ∙ first_holds before c after otherwise h.1 holds

-- the check that holds first in a list: those before it do not
pub record Held {A : Type 0} (cs : List (Check A)) : Type 0 where
  pub before : List (Check A)
  pub held : Check A
  pub after : List (Check A)
  pub whole : cs ≡ before ++ held ∷ after
  pub none_before : NoneHolds before
  pub holds : held.test ≡ true

-- in every list either none holds, or one holds first
pub held_or_none : {A : Type 0} (cs : List (Check A)) → NoneHolds cs ⊎ Held cs
held_or_none [] = inl tt
held_or_none (c ∷ cs) = go c.test refl (held_or_none cs)
  where
    go : (t : Bool) → c.test ≡ t → NoneHolds cs ⊎ Held cs → NoneHolds (c ∷ cs) ⊎ Held (c ∷ cs)
    go true e later = inr (record { before = []; held = c; after = cs; whole = refl; none_before = tt; holds = e })
    go false e (inl none) = inl (e, none)
    go false e (inr first) =
        inr
        (record {
          before = c ∷ first.before;
          held = first.held;
          after = first.after;
          whole = ap (λ l. c ∷ l) first.whole;
          none_before = (e, first.none_before);
          holds = first.holds;
        })

-- the answer where one holds first
pub held_answer : {A : Type 0} (cs : List (Check A)) (otherwise : A) (first : Held cs) → first_that_holds cs otherwise ≡ first.held.answer
held_answer cs otherwise first =
    ap (λ l. first_that_holds l otherwise) first.whole
    ∙ first_holds first.before first.held first.after otherwise first.none_before first.holds
