-- The width of an amplitude is "the smallest power bound": it is legal, the amplitude is below 2 ^ width, and no smaller legal width has that.
-- The leading zeros give the number of digits m, with n < 2 ^ m and 2 ^ m ≤ 2 * n + 1, so no power below 2 ^ m bounds n.
use mathlib.Core.Path.{◌≡◌, refl, sym, ap, ◌∙◌, subst}
use mathlib.Core.Logic.{◌⊎◌, inl, inr, ⊎_elim}
use mathlib.Core.Bool.{Bool, true, false, ◌||◌}
use Prim.Native.Nat.{ℕ, suc, ◌+◌, ◌*◌, ◌^◌, ◌≤◌, ◌<◌}
use native.Mathlib.Nat.{pow-suc}
use native.Mathlib.Omega.{arith}
use lib.Dec.{leb, eqb}
use lib.Pow.{pow_mono}
use lib.Count.{leading_length}
use borrow.Author.Tests.{lt-ltb, le-ltb, le-leb, leb-true, leb-false, eqb-true}
use Rattle.bit_rule.specs.Width.{legal_width, digits_of, width_of}

-- one of two numbers is below the other or they are equal, as a case to take
pub le_or_lt : (a b : ℕ) → (a ≤ b) ⊎ (b < a)
le_or_lt a b = go (leb a b) refl
  where
    go : (t : Bool) → leb a b ≡ t → (a ≤ b) ⊎ (b < a)
    go true e = inl (leb-true a b e)
    go false e = inr (leb-false a b e)

-- A legal width is 0..56 or 64.
pub legal_cases : (w : ℕ) → legal_width w ≡ true → (w ≤ 56) ⊎ (w ≡ 64)
legal_cases w h = go (leb w 56) refl h
  where
    go : (t : Bool) → leb w 56 ≡ t → (t || eqb w 64) ≡ true → (w ≤ 56) ⊎ (w ≡ 64)
    go true e h = inl (leb-true w 56 e)
    go false e h = inr (eqb-true w 64 h)

pub legal_le : (w : ℕ) → legal_width w ≡ true → w ≤ 64
legal_le w h = ⊎_elim (λ low. omega arith) (λ top. omega arith) (legal_cases w h)

pub legal_low : (w : ℕ) → w ≤ 56 → legal_width w ≡ true
legal_low w h = rw (le-leb w 56 h) refl

pub legal_top : legal_width 64 ≡ true
legal_top = refl

-- the digits of n: n < 2 ^ m and 2 ^ m ≤ 2 * n + 1
pub record Digits (n m : ℕ) : Type 0 where
  pub below : n < 2 ^ m
  pub reached : 2 ^ m ≤ 2 * n + 1

pub digits : (n : ℕ) → n < 2 ^ 64 → Digits n (digits_of n)
unfolding digits_of
digits n h =
    let top = leading_length 64 n h in
    let m : digits_of n ≡ top.0 = omega (arith, top.1) in
    record {
      below = subst (λ k. n < 2 ^ k) (sym m) top.2;
      reached = subst (λ k. 2 ^ k ≤ 2 * n + 1) (sym m) top.3;
    }

-- a bound 2 ^ w on n is a bound on its digits
pub digits_least : (n w : ℕ) → n < 2 ^ 64 → n < 2 ^ w → digits_of n ≤ w
digits_least n w h below =
    ⊎_elim (λ le. le)
    (λ more. absurd (let up = pow_mono {i = suc w} {j = digits_of n} more in omega (arith, up, pow-suc 2 w, (digits n h).reached)))
    (le_or_lt (digits_of n) w)

pub width_of_cases : (n : ℕ) → ((width_of n ≡ digits_of n) × (digits_of n ≤ 56)) ⊎ ((width_of n ≡ 64) × (56 < digits_of n))
unfolding width_of
width_of_cases n =
    ⊎_elim (λ low. inl (rw (le-ltb 56 (digits_of n) low) refl, low)) (λ top. inr (rw (lt-ltb 56 (digits_of n) top) refl, top))
    (le_or_lt (digits_of n) 56)

-- it is legal
pub width_of_legal : (n : ℕ) → legal_width (width_of n) ≡ true
width_of_legal n =
    ⊎_elim (λ low. ap legal_width low.0 ∙ legal_low (digits_of n) low.1) (λ top. ap legal_width top.0) (width_of_cases n)

-- the amplitude is below 2 ^ width
pub width_of_bound : (n : ℕ) → n < 2 ^ 64 → n < 2 ^ width_of n
width_of_bound n h =
    ⊎_elim (λ low. subst (λ k. n < 2 ^ k) (sym low.0) (digits n h).below) (λ top. subst (λ k. n < 2 ^ k) (sym top.0) h)
    (width_of_cases n)

-- and no smaller legal width has that
pub width_of_least : (n w : ℕ) → n < 2 ^ 64 → legal_width w ≡ true → n < 2 ^ w → width_of n ≤ w
width_of_least n w h legal below =
    let m = digits_least n w h below in
    ⊎_elim (λ low. omega (arith, low.0))
    (λ top. ⊎_elim (λ small. absurd (omega (arith, top.1))) (λ sixty-four. omega (arith, top.0)) (legal_cases w legal))
    (width_of_cases n)
