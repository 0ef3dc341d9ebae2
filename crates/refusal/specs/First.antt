-- "Order of checks": a call has a list of tests, each with the answer that it gives, and answers by the first test that holds. Where none
-- holds, the call does its work. So a reader holds each call's list beside document 01's line for it.
use Rattle.std.specs.Prelude.{Bool, cond, List, [], ◌∷◌}

-- One line of the list: where `test` holds and no earlier one does, the call gives `answer`.
pub record Check (A : Type 0) : Type 0 where
  pub test : Bool
  pub answer : A

abbrev pub check : {A : Type 0} → Bool → A → Check A
check b a = record { test = b; answer = a }

-- The answer of the first check that holds, and `otherwise` where none does.
abbrev pub first_that_holds : {A : Type 0} → List (Check A) → A → A
first_that_holds [] otherwise = otherwise
first_that_holds (c ∷ cs) otherwise = cond c.test c.answer (first_that_holds cs otherwise)
