-- Each by the last digit: of a number it is the remainder by ten, and what is before it is the quotient's digits.
use Rattle.std.proofs.Common.{◌≡◌, ℕ, zero, suc, ◌+◌, ◌-◌, ◌*◌, ◌/◌, ◌%◌, ◌^◌, ◌<◌, ◌≤◌, Bool, true, false, cond, Ok, Err, eqb, ltb, leb, List, [], ◌∷◌, ◌++◌, length, get_or, take, sym, refl, ap, subst, ◌∙◌, ap₂, le_antisymm, pow-suc, arith, length-append, length-take-le, take_all, take-suc, leb-false, ltb-false, le-ltb, lt-ltb, ne_eqb, le-leb}
use native.Mathlib.Nat.{one-le-pow}
use borrow.Author.Tests.{lt-leb}
use Rattle.std.specs.Prelude.{decimal}
use Rattle.std.proofs.lemmas.Bool.{eqb-false}
use Rattle.std.proofs.lemmas.Fmt.{decimal_by_steps}
use Rattle.io.specs.Digits.{hex_digit_ascii, last_digits, IsDigitCount}
use Rattle.decimal.specs.declared.NumeralError.TheVariants.{Empty, NotADigit, TooLarge}
use Rattle.decimal.specs.Digits.{is_digit, digit_of, first_other, numeral, number_or_too_large, read_of}
use Rattle.decimal.specs.Written.{WhatIsWrittenIsRead, WhatIsReadIsWritten, WhatIsShownIsWritten, WhatIsShownIsRead, WhatIsReadIsShown}
use Rattle.decimal.proofs.Laws.{other_within, digit_range, numeral_append, one_digit}

-- the digit of a number below ten
glyph_is : (d : ℕ) → d < 10 → hex_digit_ascii d ≡ 48 + d
glyph_is d small = ap (λ t. cond t (48 + d) (87 + d)) (lt-ltb d 10 small)

is_glyph : (d : ℕ) → d < 10 → is_digit (48 + d) ≡ true
is_glyph d small = simp (le-leb 48 (48 + d) (omega arith), le-leb (48 + d) 57 (omega arith))

length_digits : (k n : ℕ) → length (last_digits 10 k n) ≡ k
length_digits zero n = refl
length_digits (suc k) n = length-append (last_digits 10 k (n / 10)) (hex_digit_ascii (n % 10) ∷ []) ∙ ap (λ m. m + 1) (length_digits k (n / 10)) ∙ omega arith

-- digits behind digits
other_append : (xs : List ℕ) (b : ℕ) → first_other xs ≡ length xs → is_digit b ≡ true → first_other (xs ++ b ∷ []) ≡ length (xs ++ b ∷ [])
unfolding first_other
other_append [] b all digit = ap (λ t. cond t 1 0) digit
other_append (x ∷ xs) b all digit = by_digit (is_digit x) all (λ rest. other_append xs b rest digit)
  where
    by_digit : (t : Bool) → cond t (suc (first_other xs)) 0 ≡ suc (length xs) → (first_other xs ≡ length xs → first_other (xs ++ b ∷ []) ≡ length (xs ++ b ∷ []))
        → cond t (suc (first_other (xs ++ b ∷ []))) 0 ≡ suc (length (xs ++ b ∷ []))
    by_digit true whole rest = ap suc (rest (omega arith))
    by_digit false whole rest = absurd (omega arith)

all_digits : (k n : ℕ) → first_other (last_digits 10 k n) ≡ length (last_digits 10 k n)
unfolding first_other
all_digits zero n = refl
all_digits (suc k) n =
    other_append (last_digits 10 k (n / 10)) (hex_digit_ascii (n % 10)) (all_digits k (n / 10))
    (ap is_digit (glyph_is (n % 10) (omega arith)) ∙ is_glyph (n % 10) (omega arith))

numeral_digits : (k n : ℕ) → n < 10 ^ k → numeral (last_digits 10 k n) ≡ n
unfolding numeral
numeral_digits zero n small = omega arith
numeral_digits (suc k) n small =
    let d = n % 10 in
    let digit : digit_of (hex_digit_ascii d) ≡ d = ap digit_of (glyph_is d (omega arith)) ∙ omega arith in
    numeral_append (last_digits 10 k (n / 10)) (hex_digit_ascii d ∷ [])
    ∙ ap₂ (λ a b. a * 10 + b) (numeral_digits k (n / 10) (omega (arith, pow-suc 10 k))) (one_digit (hex_digit_ascii d) ∙ digit)
    ∙ omega arith

-- what it says of a text that it is read as a number
record Reads (text : List ℕ) (n : ℕ) : Type 0 where
  some : 0 < length text
  all : first_other text ≡ length text
  number : numeral text ≡ n
  small : n < 2 ^ 64

is_read : (text : List ℕ) (n : ℕ) → Reads text n → read_of text ≡ Ok n
unfolding read_of number_or_too_large
is_read text n is =
    simp (ne_eqb (length text) 0 (λ none. omega (arith, is.some)), le-ltb (first_other text) (length text) (omega (arith, is.all)), lt-leb (2 ^ 64) (numeral text) (omega (arith, is.number, is.small)))
    (ap Ok is.number)

pub what_is_written_is_read : WhatIsWrittenIsRead
what_is_written_is_read n k word fewest =
    let text = last_digits 10 k n in
    let long : length text ≡ k = length_digits k n in
    is_read text n (record { some = omega (arith, fewest.0); all = all_digits k n; number = numeral_digits k n fewest.1; small = word })

-- ---- and the other way round

other_take : (text : List ℕ) (m : ℕ) → m ≤ first_other text → first_other (take m text) ≡ length (take m text)
unfolding first_other
other_take text zero from = refl
other_take [] (suc m) from = refl
other_take (b ∷ bs) (suc m) from = by_digit (is_digit b) from (other_take bs m)
  where
    by_digit : (t : Bool) → suc m ≤ cond t (suc (first_other bs)) 0 → (m ≤ first_other bs → first_other (take m bs) ≡ length (take m bs))
        → cond t (suc (first_other (take m bs))) 0 ≡ suc (length (take m bs))
    by_digit true inside rest = ap suc (rest (omega arith))
    by_digit false inside rest = absurd (omega arith)

digits_numeral : (m : ℕ) (text : List ℕ) → length text ≡ m → first_other text ≡ m → last_digits 10 m (numeral text) ≡ text
unfolding numeral
digits_numeral zero [] size all = refl
digits_numeral zero (b ∷ bs) size all = absurd (omega arith)
digits_numeral (suc m) text size all =
    let front = take m text in
    let b = get_or text m 0 in
    let long : length front ≡ m = length-take-le m text (omega arith) in
    let whole : text ≡ front ++ b ∷ [] = sym (take_all (suc m) text (omega arith)) ∙ take-suc text m 0 (omega arith) in
    let range = digit_range text m (omega arith) in
    let number : numeral text ≡ numeral front * 10 + digit_of b = ap numeral whole ∙ numeral_append front (b ∷ []) ∙ ap (λ r. numeral front * 10 + r) (one_digit b) in
    let quotient : numeral text / 10 ≡ numeral front = omega (arith, range.0, range.1) in
    let remainder : numeral text % 10 ≡ digit_of b = omega (arith, range.0, range.1) in
    ap₂ (λ q r. last_digits 10 m q ++ (hex_digit_ascii r ∷ [])) quotient remainder
    ∙ ap₂ (λ l c. l ++ (c ∷ []))
    (digits_numeral m front long (other_take text m (omega arith) ∙ long))
    (glyph_is (digit_of b) (omega (arith, range.1)) ∙ omega (arith, range.0))
    ∙ sym whole

reads : (text : List ℕ) (n : ℕ) → read_of text ≡ Ok n → Reads text n
unfolding read_of number_or_too_large
reads text n is = by_tests (eqb (length text) 0) (ltb (first_other text) (length text)) (leb (2 ^ 64) (numeral text)) refl refl refl is
  where
    by_tests : (e o l : Bool) → eqb (length text) 0 ≡ e → ltb (first_other text) (length text) ≡ o → leb (2 ^ 64) (numeral text) ≡ l
        → cond e (Err Empty) (cond o (Err (NotADigit (first_other text) (get_or text (first_other text) 0))) (cond l (Err TooLarge) (Ok (numeral text)))) ≡ Ok n → Reads text n
    by_tests true o l e_is o_is l_is h = absurd cc
    by_tests false true l e_is o_is l_is h = absurd cc
    by_tests false false true e_is o_is l_is h = absurd cc
    by_tests false false false e_is o_is l_is h =
        let number : numeral text ≡ n = cc in
        record {
          some = omega (arith, eqb-false (length text) 0 e_is);
          all = le_antisymm (other_within text) (ltb-false _ _ o_is);
          number = number;
          small = omega (arith, number, leb-false _ _ l_is);
        }

pub what_is_read_is_written : WhatIsReadIsWritten
what_is_read_is_written text n is =
    let said = reads text n is in
    ap (last_digits 10 (length text)) (sym said.number) ∙ digits_numeral (length text) text refl said.all

-- ---- what is shown, by its last digit too

less : (j : ℕ) → suc j - 1 ≡ j
less j = omega arith

-- the least number of so many digits
least : (j m : ℕ) → IsDigitCount 10 1 m (suc (suc j)) → 10 * 10 ^ j ≤ m
least j m count = omega (arith, subst (λ e. 10 ^ e ≤ m) (less (suc j)) (count.2 (omega arith)), pow-suc 10 j)

pub what_is_shown_is_written : WhatIsShownIsWritten
what_is_shown_is_written n k word fewest = decimal_by_steps (λ m shown. (j : ℕ) → IsDigitCount 10 1 m j → shown ≡ last_digits 10 j m) one more n word k fewest
  where
    one : (m : ℕ) → m < 10 → (j : ℕ) → IsDigitCount 10 1 m j → (48 + m) ∷ [] ≡ last_digits 10 j m
    one m digit zero count = absurd (omega (arith, count.0))
    one m digit (suc zero) count = let same : m % 10 ≡ m = omega arith in ap (λ c. c ∷ []) (sym (ap hex_digit_ascii same ∙ glyph_is m digit))
    one m digit (suc (suc j)) count = absurd (omega (arith, least j m count, one-le-pow j 10 (omega arith)))

    more : (m : ℕ) (front : List ℕ) → 10 ≤ m → ((j : ℕ) → IsDigitCount 10 1 (m / 10) j → front ≡ last_digits 10 j (m / 10))
        → (j : ℕ) → IsDigitCount 10 1 m j → front ++ ((48 + m % 10) ∷ []) ≡ last_digits 10 j m
    more m front large before zero count = absurd (omega (arith, count.0))
    more m front large before (suc zero) count = absurd (omega (arith, count.1))
    more m front large before (suc (suc j)) count =
        let small : m < 10 * 10 ^ suc j = omega (arith, count.1, pow-suc 10 (suc j)) in
        let quotient : 10 ^ j ≤ m / 10 = omega (arith, least j m count) in
        ap₂ (λ l c. l ++ (c ∷ []))
        (before (suc j) (omega arith, omega (arith, small), λ some. subst (λ e. 10 ^ e ≤ m / 10) (sym (less j)) quotient))
        (sym (glyph_is (m % 10) (omega arith)))

pub what_is_shown_is_read : WhatIsShownIsRead
unfolding first_other
what_is_shown_is_read n word = is_read (decimal n) n (decimal_by_steps (λ m shown. m < 2 ^ 64 → Reads shown m) one more n word word)
  where
    one : (m : ℕ) → m < 10 → m < 2 ^ 64 → Reads ((48 + m) ∷ []) m
    one m digit small = record {
      some = omega arith;
      all = other_append [] (48 + m) refl (is_glyph m digit);
      number = one_digit (48 + m) ∙ omega arith;
      small = small;
    }

    more : (m : ℕ) (front : List ℕ) → 10 ≤ m → (m / 10 < 2 ^ 64 → Reads front (m / 10)) → m < 2 ^ 64 → Reads (front ++ ((48 + m % 10) ∷ [])) m
    more m front large before small =
        let said = before (omega arith) in
        let digit : m % 10 < 10 = omega arith in
        record {
          some = omega (arith, length-append front ((48 + m % 10) ∷ []));
          all = other_append front (48 + m % 10) said.all (is_glyph (m % 10) digit);
          number = numeral_append front ((48 + m % 10) ∷ []) ∙ ap₂ (λ a b. a * 10 + b) said.number (one_digit (48 + m % 10)) ∙ omega arith;
          small = small;
        }

pub what_is_read_is_shown : WhatIsReadIsShown
what_is_read_is_shown text n is fewest = what_is_shown_is_written n (length text) (reads text n is).small fewest ∙ what_is_read_is_written text n is
