-- Digits up to a place, and the number that they stand for so far: each digit more is ten times that number and the digit.
use Rattle.std.proofs.Common.{◌≡◌, ℕ, zero, suc, ◌+◌, ◌*◌, ◌^◌, ◌<◌, ◌≤◌, Bool, true, false, cond, not, leb, Option, Some, None, MatchOption, is_some, unwrap_or, option_and_then, Ok, Err, List, [], ◌∷◌, ◌++◌, length, get_or, take, drop, sym, refl, ap, ◌∙◌, subst, ap₂, ⊎_elim, zero-le, le_refl, add_assoc, mul_assoc, add-mul, le_antisymm, mul-le-mul_left, mul-one, add-one, arith, length-append, take-append-drop, take-suc, pow-add, eq-eqb, ne_eqb, le-leb, leb-false, leb-true}
use mathlib.Core.Bool.{and-eq-true_iff}
use native.Mathlib.Nat.{one-le-pow}
use borrow.Author.Tests.{lt-leb, not-true, not-false}
use Rattle.std.specs.List.{position_or_len}
use Rattle.std.specs.Result.{result_ok}
use Rattle.bit_rule.proofs.Width.{le_or_lt}
use Rattle.decimal.specs.declared.line.Line.{Line}
use Rattle.decimal.specs.declared.NumeralError.TheVariants.{Empty, NotADigit, TooLarge}
use Rattle.decimal.specs.Digits.{is_digit, digit_of, first_other, numeral, append_of}
use Rattle.decimal.specs.Line.{if_it_fits, wrong_line, cr_line, digit_line, byte_of, ended_of}

-- ---- the first byte that is no digit

pub other_within : (text : List ℕ) → first_other text ≤ length text
unfolding first_other
other_within [] = le_refl 0
other_within (b ∷ bs) = by_digit (is_digit b) (other_within bs)
  where
    by_digit : (t : Bool) → first_other bs ≤ length bs → cond t (suc (first_other bs)) 0 ≤ suc (length bs)
    by_digit true inside = omega arith
    by_digit false inside = zero-le

-- before it every byte is a digit
pub digit_below : (text : List ℕ) (i : ℕ) → i < first_other text → is_digit (get_or text i 0) ≡ true
unfolding first_other
digit_below [] i below = absurd (omega arith)
digit_below (b ∷ bs) zero below = by_digit (is_digit b) below
  where
    by_digit : (t : Bool) → 0 < cond t (suc (first_other bs)) 0 → t ≡ true
    by_digit true some = refl
    by_digit false some = absurd (omega arith)
digit_below (b ∷ bs) (suc i) below = digit_below bs i (by_digit (is_digit b) below)
  where
    by_digit : (t : Bool) → suc i < cond t (suc (first_other bs)) 0 → i < first_other bs
    by_digit true some = omega arith
    by_digit false some = absurd (omega arith)

pub range_of_digit : (b : ℕ) → is_digit b ≡ true → (48 ≤ b) × (b ≤ 57)
range_of_digit b digit =
    let both = (and-eq-true_iff (leb 48 b) (leb b 57)).0 digit in
    (leb-true _ _ both.0, leb-true _ _ both.1)

pub digit_range : (text : List ℕ) (i : ℕ) → i < first_other text → (48 ≤ get_or text i 0) × (get_or text i 0 ≤ 57)
digit_range text i below = range_of_digit (get_or text i 0) (digit_below text i below)

-- one digit more
pub other_more : (text : List ℕ) (i : ℕ) → i ≤ first_other text → i < length text → is_digit (get_or text i 0) ≡ true → i + 1 ≤ first_other text
unfolding first_other
other_more [] i from within digit = absurd (omega arith)
other_more (b ∷ bs) zero from within digit = subst (λ t. 1 ≤ cond t (suc (first_other bs)) 0) (sym digit) (omega arith)
other_more (b ∷ bs) (suc i) from within digit = by_digit (is_digit b) from (λ f. other_more bs i f (omega arith) digit)
  where
    by_digit : (t : Bool) → suc i ≤ cond t (suc (first_other bs)) 0 → (i ≤ first_other bs → i + 1 ≤ first_other bs) → suc i + 1 ≤ cond t (suc (first_other bs)) 0
    by_digit true start more = omega (arith, more (omega arith))
    by_digit false start more = absurd (omega arith)

-- and here is none
pub other_here : (text : List ℕ) (i : ℕ) → i ≤ first_other text → is_digit (get_or text i 0) ≡ false → i ≡ first_other text
other_here text i from other =
    ⊎_elim (λ there. le_antisymm from there) (λ below. absurd (differ (digit_below text i below))) (le_or_lt (first_other text) i)
  where
    differ : is_digit (get_or text i 0) ≡ true → ⊥
    differ digit = let z : true ≡ false = sym digit ∙ other in let w : ◌≡◌ {A = ℕ} 0 1 = cc in omega arith

-- the first byte that passes the test for a byte that is no digit, or the length
pub other_is : (text : List ℕ) → position_or_len (λ b. not (is_digit b)) text ≡ first_other text
unfolding first_other
other_is [] = refl
other_is (b ∷ bs) = by_digit (is_digit b) (other_is bs)
  where
    by_digit : (t : Bool) → position_or_len (λ b. not (is_digit b)) bs ≡ first_other bs
        → cond (not (not t)) (1 + position_or_len (λ b. not (is_digit b)) bs) 0 ≡ cond t (suc (first_other bs)) 0
    by_digit true rest = omega arith
    by_digit false rest = refl

pub other_nowhere : (text : List ℕ) → (first_other text < length text → ⊥) → first_other text ≡ length text
other_nowhere text nowhere = ⊎_elim (λ past. le_antisymm (other_within text) past) (λ below. absurd (nowhere below)) (le_or_lt (length text) (first_other text))

-- ---- the number so far

pub numeral_append : (xs ys : List ℕ) → numeral (xs ++ ys) ≡ numeral xs * 10 ^ length ys + numeral ys
unfolding numeral
numeral_append [] ys = omega arith
numeral_append (x ∷ xs) ys =
    let n = length xs in
    let m = length ys in
    let power : 10 ^ length (xs ++ ys) ≡ 10 ^ n * 10 ^ m = ap (λ k. 10 ^ k) (length-append xs ys) ∙ pow-add 10 n m in
    ap₂ (λ p r. digit_of x * p + r) power (numeral_append xs ys)
    ∙ ap (λ p. p + (numeral xs * 10 ^ m + numeral ys)) (sym (mul_assoc (digit_of x) (10 ^ n) (10 ^ m)))
    ∙ sym (ap (λ p. p + numeral ys) (add-mul (digit_of x * 10 ^ n) (numeral xs) (10 ^ m)) ∙ add_assoc (digit_of x * 10 ^ n * 10 ^ m) (numeral xs * 10 ^ m) (numeral ys))

pub one_digit : (b : ℕ) → numeral (b ∷ []) ≡ digit_of b
unfolding numeral
one_digit b = omega arith

-- one digit more
pub numeral_next : (text : List ℕ) (i : ℕ) → i < length text → numeral (take (i + 1) text) ≡ numeral (take i text) * 10 + digit_of (get_or text i 0)
numeral_next text i within =
    ap (λ k. numeral (take k text)) (add-one i) ∙ ap numeral (take-suc text i 0 within) ∙ numeral_append (take i text) (get_or text i 0 ∷ []) ∙ last_digit
  where
    last_digit : numeral (take i text) * 10 ^ 1 + numeral (get_or text i 0 ∷ []) ≡ numeral (take i text) * 10 + digit_of (get_or text i 0)
    last_digit = ap (λ r. numeral (take i text) * 10 + r) (one_digit (get_or text i 0))

-- the whole is no less than its first digits
pub numeral_first : (text : List ℕ) (i : ℕ) → numeral (take i text) ≤ numeral text
numeral_first text i =
    let rest = drop i text in
    let whole : numeral text ≡ numeral (take i text) * 10 ^ length rest + numeral rest = ap numeral (sym (take-append-drop i text)) ∙ numeral_append (take i text) rest in
    let some : numeral (take i text) * 1 ≤ numeral (take i text) * 10 ^ length rest = mul-le-mul_left (numeral (take i text)) (one-le-pow (length rest) 10 (omega arith)) in
    omega (arith, mul-one (numeral (take i text)))

-- ---- what the answer about one digit more says

pub append_other : (value b : ℕ) → is_digit b ≡ false → append_of value b ≡ Err (NotADigit 0 b)
unfolding append_of
append_other value b other = simp other

pub append_fits : (value b : ℕ) → is_digit b ≡ true → value * 10 + digit_of b < 2 ^ 64 → append_of value b ≡ Ok (value * 10 + digit_of b)
unfolding append_of
append_fits value b digit small = simp (digit, lt-leb (2 ^ 64) (value * 10 + digit_of b) small)

pub append_too_large : (value b : ℕ) → is_digit b ≡ true → 2 ^ 64 ≤ value * 10 + digit_of b → append_of value b ≡ Err TooLarge
unfolding append_of
append_too_large value b digit large = simp (digit, le-leb (2 ^ 64) (value * 10 + digit_of b) large)

-- and what is known where it was answered
pub record Appended (value b n : ℕ) : Type 0 where
  pub digit : is_digit b ≡ true
  pub number : value * 10 + digit_of b ≡ n
  pub fits : n < 2 ^ 64

pub appended : (value b n : ℕ) → append_of value b ≡ Ok n → Appended value b n
unfolding append_of
appended value b n is = by_tests (not (is_digit b)) (leb (2 ^ 64) (value * 10 + digit_of b)) refl refl is
  where
    by_tests : (o l : Bool) → not (is_digit b) ≡ o → leb (2 ^ 64) (value * 10 + digit_of b) ≡ l
        → cond o (Err (NotADigit 0 b)) (cond l (Err TooLarge) (Ok (value * 10 + digit_of b))) ≡ Ok n
        → Appended value b n
    by_tests true l o_is l-is h = absurd (let z : ◌≡◌ {A = ℕ} 0 1 = cc in omega arith)
    by_tests false true o_is l-is h = absurd (let z : ◌≡◌ {A = ℕ} 0 1 = cc in omega arith)
    by_tests false false o_is l-is h =
        let same : value * 10 + digit_of b ≡ n = cc in
        record { digit = not-false _ o_is; number = same; fits = omega (arith, leb-false (2 ^ 64) (value * 10 + digit_of b) l-is) }

pub appended_too_large : (value b : ℕ) → append_of value b ≡ Err TooLarge → (is_digit b ≡ true) × (2 ^ 64 ≤ value * 10 + digit_of b)
unfolding append_of
appended_too_large value b is = by_tests (not (is_digit b)) (leb (2 ^ 64) (value * 10 + digit_of b)) refl refl is
  where
    by_tests : (o l : Bool) → not (is_digit b) ≡ o → leb (2 ^ 64) (value * 10 + digit_of b) ≡ l
        → cond o (Err (NotADigit 0 b)) (cond l (Err TooLarge) (Ok (value * 10 + digit_of b))) ≡ Err TooLarge
        → (is_digit b ≡ true) × (2 ^ 64 ≤ value * 10 + digit_of b)
    by_tests true l o_is l-is h = absurd (let z : ◌≡◌ {A = ℕ} 0 1 = cc in omega arith)
    by_tests false true o_is l-is h = (not-false _ o_is, leb-true (2 ^ 64) (value * 10 + digit_of b) l-is)
    by_tests false false o_is l-is h = absurd (let z : ◌≡◌ {A = ℕ} 0 1 = cc in omega arith)

pub appended_no_digit : (value b k c : ℕ) → append_of value b ≡ Err (NotADigit k c) → is_digit b ≡ false
unfolding append_of
appended_no_digit value b k c is = by_tests (not (is_digit b)) (leb (2 ^ 64) (value * 10 + digit_of b)) refl is
  where
    by_tests : (o l : Bool) → not (is_digit b) ≡ o
        → cond o (Err (NotADigit 0 b)) (cond l (Err TooLarge) (Ok (value * 10 + digit_of b))) ≡ Err (NotADigit k c) → is_digit b ≡ false
    by_tests true l o_is h = not-true _ o_is
    by_tests false true o_is h = absurd (let z : ◌≡◌ {A = ℕ} 0 1 = cc in omega arith)
    by_tests false false o_is h = absurd (let z : ◌≡◌ {A = ℕ} 0 1 = cc in omega arith)

pub appended_never_empty : (value b : ℕ) → append_of value b ≡ Err Empty → ⊥
unfolding append_of
appended_never_empty value b is = by_tests (not (is_digit b)) (leb (2 ^ 64) (value * 10 + digit_of b)) is
  where
    by_tests : (o l : Bool) → cond o (Err (NotADigit 0 b)) (cond l (Err TooLarge) (Ok (value * 10 + digit_of b))) ≡ Err Empty → ⊥
    by_tests true l h = let z : ◌≡◌ {A = ℕ} 0 1 = cc in omega arith
    by_tests false true h = let z : ◌≡◌ {A = ℕ} 0 1 = cc in omega arith
    by_tests false false h = let z : ◌≡◌ {A = ℕ} 0 1 = cc in omega arith

-- what is appended is a number where it fits
pub appended_is : (value b : ℕ) → is_digit b ≡ true → result_ok (append_of value b) ≡ if_it_fits (value * 10 + digit_of b)
unfolding append_of
appended_is value b digit = simp digit (by_size (leb (2 ^ 64) (value * 10 + digit_of b)))
  where
    by_size : (large : Bool) → result_ok (cond large (Err TooLarge) (Ok (value * 10 + digit_of b))) ≡ cond large None (Some (value * 10 + digit_of b))
    by_size true = refl
    by_size false = refl

-- the number so far with the digit, from what the step says of it
pub added : (v o : Option ℕ) (b : ℕ) {P : Type 0} {Q : ℕ → Type 0} → is_digit b ≡ true → MatchOption v P Q → (P → o ≡ None)
    → ((n : ℕ) → Q n → o ≡ result_ok (append_of n b)) → o ≡ option_and_then (λ n. if_it_fits (n * 10 + digit_of b)) v
added None o b digit said none some = none said
added (Some n) o b digit said none some = some n said ∙ appended_is n b digit

-- ---- one byte more of a line

pub byte_of_wrong : (l : Line) (b : ℕ) → is_some l.wrong ≡ true → byte_of l b ≡ l
unfolding byte_of
byte_of_wrong l b wrong = simp wrong

module _ (l : Line) (b : ℕ) (right : is_some l.wrong ≡ false) where
  pub byte_after_cr : l.after_cr ≡ true → byte_of l b ≡ wrong_line l 13
  unfolding byte_of
  byte_after_cr cr = simp (right, cr)

  pub byte_is_cr : l.after_cr ≡ false → b ≡ 13 → byte_of l b ≡ cr_line l
  unfolding byte_of
  byte_is_cr no-cr is = simp (right, no-cr, eq-eqb b 13 is)

  pub byte_is_other : l.after_cr ≡ false → (b ≡ 13 → ⊥) → is_digit b ≡ false → byte_of l b ≡ wrong_line l b
  unfolding byte_of
  byte_is_other no-cr differs other = simp (right, no-cr, ne_eqb b 13 differs, other)

  pub byte_is_digit : l.after_cr ≡ false → is_digit b ≡ true → byte_of l b ≡ digit_line l (digit_of b)
  unfolding byte_of
  byte_is_digit no-cr digit = simp (right, no-cr, ne_eqb b 13 (λ is. omega (arith, (range_of_digit b digit).0)), digit)

-- ---- what a line's end says

pub ended_wrong : (l : Line) → is_some l.wrong ≡ true → ended_of l ≡ Err (NotADigit l.digits (unwrap_or l.wrong 0))
unfolding ended_of
ended_wrong l wrong = simp wrong

pub ended_empty : (l : Line) → is_some l.wrong ≡ false → l.digits ≡ 0 → ended_of l ≡ Err Empty
unfolding ended_of
ended_empty l right none = simp (right, eq-eqb l.digits 0 none)

pub ended_too_large : (l : Line) → is_some l.wrong ≡ false → (l.digits ≡ 0 → ⊥) → l.value ≡ None → ended_of l ≡ Err TooLarge
unfolding ended_of
ended_too_large l right some large = simp (right, ne_eqb l.digits 0 some, large)

pub ended_number : (l : Line) (n : ℕ) → is_some l.wrong ≡ false → (l.digits ≡ 0 → ⊥) → l.value ≡ Some n → ended_of l ≡ Ok n
unfolding ended_of
ended_number l n right some is = simp (right, ne_eqb l.digits 0 some, is)
