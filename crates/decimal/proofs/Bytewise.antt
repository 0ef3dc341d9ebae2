-- A line read byte by byte says what the whole line says. By induction over what is still to come: the fields after k digits that stand for n
-- are `so_far k n`, and what they and the rest say together is `read_from k n rest`.
use Rattle.std.proofs.Common.{◌≡◌, ℕ, suc, ◌+◌, ◌*◌, ◌^◌, ◌<◌, Bool, true, false, cond, Some, None, is_some, unwrap_or, option_and_then, ok_or, Result, Ok, Err, eqb, ltb, leb, List, [], ◌∷◌, ◌++◌, length, get_or, sym, refl, ap, ◌∙◌, ap₂, le_refl, mul_assoc, mul_comm, add-mul, pow-suc, arith, le-ltb, lt-ltb, ne_eqb, eqb-true, leb-false, leb-true}
use borrow.Author.Tests.{eqb-false}
use Rattle.refusal.specs.First.{check, first_that_holds}
use Rattle.decimal.specs.declared.NumeralError.{NumeralError}
use Rattle.decimal.specs.declared.NumeralError.TheVariants.{Empty, NotADigit, TooLarge}
use Rattle.decimal.specs.declared.line.Line.{Line}
use Rattle.decimal.specs.Digits.{is_digit, digit_of, first_other, numeral, number_or_too_large, read_of}
use Rattle.decimal.specs.Line.{line_of, if_it_fits, wrong_line, cr_line, byte_of, bytes_of, ended_of, without_cr, AnEndedLineIsRead}
use Rattle.decimal.proofs.Laws.{range_of_digit, byte_of_wrong, byte_after_cr, byte_is_cr, byte_is_other, byte_is_digit, ended_wrong}

-- bytes after bytes
pub bytes_append : (l : Line) (xs ys : List ℕ) → bytes_of l (xs ++ ys) ≡ bytes_of (bytes_of l xs) ys
unfolding bytes_of
bytes_append l [] ys = refl
bytes_append l (x ∷ xs) ys = bytes_append (byte_of l x) xs ys

-- ---- the fields after some bytes

abbrev so_far : ℕ → ℕ → Line
so_far k n = line_of k (if_it_fits n) false None

-- a number that is too large stays so with one digit more
fits_more : (n d : ℕ) → option_and_then (λ value. if_it_fits (value * 10 + d)) (if_it_fits n) ≡ if_it_fits (n * 10 + d)
fits_more n d = by_large (leb (2 ^ 64) n) (leb (2 ^ 64) (n * 10 + d)) refl refl
  where
    by_large : (large more : Bool) → leb (2 ^ 64) n ≡ large → leb (2 ^ 64) (n * 10 + d) ≡ more
        → option_and_then (λ value. if_it_fits (value * 10 + d)) (cond large None (Some n)) ≡ cond more None (Some (n * 10 + d))
    by_large true true large_is more-is = refl
    by_large true false large_is more-is = absurd (omega (arith, leb-true (2 ^ 64) n large_is, leb-false (2 ^ 64) (n * 10 + d) more-is))
    by_large false more large_is more-is = ap (λ t. cond t None (Some (n * 10 + d))) more-is

-- one digit more
so_far_more : (k n b : ℕ) → k + 1 < 2 ^ 64 → is_digit b ≡ true → byte_of (so_far k n) b ≡ so_far (k + 1) (n * 10 + digit_of b)
so_far_more k n b few digit =
    byte_is_digit (so_far k n) b refl refl digit
    ∙ ap₂ (λ i v. line_of i v false None) (omega arith) (fits_more n (digit_of b))

-- what is wrong stays as it is
wrong_stays : (l : Line) (bs : List ℕ) → is_some l.wrong ≡ true → bytes_of l bs ≡ l
unfolding bytes_of
wrong_stays l [] wrong = refl
wrong_stays l (b ∷ bs) wrong = ap (λ m. bytes_of m bs) (byte_of_wrong l b wrong) ∙ wrong_stays l bs wrong

-- ---- what digits so far and a rest say together

said : ℕ → ℕ → ℕ → ℕ → Result ℕ NumeralError
said size place other whole =
    first_that_holds (check (eqb size 0) (Err Empty) ∷ check (ltb place size) (Err (NotADigit place other)) ∷ check (leb (2 ^ 64) whole) (Err TooLarge) ∷ []) (Ok whole)

said_same : (size size' place place' other other' whole whole' : ℕ)
    → size ≡ size' → place ≡ place' → other ≡ other' → whole ≡ whole' → said size place other whole ≡ said size' place' other' whole'
said_same size size' place place' other other' whole whole' s p o w = cc

abbrev read_from : ℕ → ℕ → List ℕ → Result ℕ NumeralError
read_from k n text = said (k + length text) (k + first_other text) (get_or text (first_other text) 0) (n * 10 ^ length text + numeral text)

read_whole : (text : List ℕ) → read_from 0 0 text ≡ read_of text
unfolding said read_of number_or_too_large
read_whole text =
    said_same (0 + length text) (length text) (0 + first_other text) (first_other text) _ _ (0 * 10 ^ length text + numeral text) (numeral text)
    (omega arith) (omega arith) refl (omega arith)

-- a digit belongs to those so far as well as to the rest
read_more : (k n b : ℕ) (rest : List ℕ) → is_digit b ≡ true → read_from (k + 1) (n * 10 + digit_of b) rest ≡ read_from k n (b ∷ rest)
unfolding first_other numeral
read_more k n b rest digit =
    let p = 10 ^ length rest in
    said_same (k + 1 + length rest) (k + suc (length rest)) (k + 1 + first_other rest) (k + cond (is_digit b) (suc (first_other rest)) 0) _ (get_or (b ∷ rest) (cond (is_digit b) (suc (first_other rest)) 0) 0)
    ((n * 10 + digit_of b) * p + numeral rest) (n * 10 ^ suc (length rest) + (digit_of b * p + numeral rest))
    (omega arith)
    (omega (arith, ap (λ t. cond t (suc (first_other rest)) 0) digit))
    (sym (ap (λ t. get_or (b ∷ rest) (cond t (suc (first_other rest)) 0) 0) digit))
    (omega (arith, add-mul (n * 10) (digit_of b) p, mul_assoc n 10 p, ap (λ q. n * q) (pow-suc 10 (length rest)), ap (λ q. n * q) (mul_comm p 10)))

read_other : (k n b : ℕ) (rest : List ℕ) → is_digit b ≡ false → read_from k n (b ∷ rest) ≡ Err (NotADigit k b)
unfolding said first_other
read_other k n b rest other =
    let size = k + suc (length rest) in
    let whole = n * 10 ^ suc (length rest) + numeral (b ∷ rest) in
    let here : k + cond (is_digit b) (suc (first_other rest)) 0 ≡ k = ap (λ t. k + cond t (suc (first_other rest)) 0) other ∙ omega arith in
    said_same size size _ k _ b whole whole refl here (ap (λ t. get_or (b ∷ rest) (cond t (suc (first_other rest)) 0) 0) other) refl ∙ simp (ne_eqb size 0 (λ none. omega arith), lt-ltb k size (omega arith))

read_end : (k n : ℕ) → ended_of (so_far k n) ≡ read_from k n []
unfolding said ended_of first_other numeral
read_end k n =
    by_tests (eqb k 0) (leb (2 ^ 64) n) (ltb k k) (le-ltb k k (le_refl k))
    ∙ said_same k (k + 0) k (k + 0) 0 0 n (n * 10 ^ 0 + 0) (omega arith) (omega arith) refl (omega arith)
  where
    by_tests : (none large other : Bool) → other ≡ false
        → cond none (Err Empty) (ok_or (cond large None (Some n)) TooLarge)
        ≡ cond none (Err Empty) (cond other (Err (NotADigit k 0)) (cond large (Err TooLarge) (Ok n)))
    by_tests true large other is = refl
    by_tests false large true is = absurd cc
    by_tests false true false is = refl
    by_tests false false false is = refl

-- ---- a line that a line feed ends

without_cr_more : (b : ℕ) (bs : List ℕ) → (b ≡ 13 → ⊥) → without_cr (b ∷ bs) ≡ b ∷ without_cr bs
unfolding without_cr
without_cr_more b [] differs = simp (ne_eqb b 13 differs)
without_cr_more b (c ∷ cs) differs = refl

ended_after_wrong : (l : Line) (bs : List ℕ) → is_some l.wrong ≡ true
    → ended_of (bytes_of l bs) ≡ Err (NotADigit l.digits (unwrap_or l.wrong 0))
ended_after_wrong l bs wrong = ap ended_of (wrong_stays l bs wrong) ∙ ended_wrong l wrong

-- a carriage return ends the line with the line feed, and may not stand elsewhere
ended_cr : (k n : ℕ) (bs : List ℕ) → ended_of (bytes_of (cr_line (so_far k n)) bs) ≡ read_from k n (without_cr (13 ∷ bs))
unfolding bytes_of ended_of without_cr
ended_cr k n [] = read_end k n
ended_cr k n (c ∷ cs) =
    let line = cr_line (so_far k n) in
    ap (λ l. ended_of (bytes_of l cs)) (byte_after_cr line c refl refl)
    ∙ ended_after_wrong (wrong_line line 13) cs refl
    ∙ sym (read_other k n 13 (without_cr (c ∷ cs)) refl)

ended_from : (k n : ℕ) (line : List ℕ) → k + length line < 2 ^ 64 → ended_of (bytes_of (so_far k n) line) ≡ read_from k n (without_cr line)
unfolding bytes_of without_cr
ended_from k n [] few = read_end k n
ended_from k n (b ∷ bs) few = by_byte (is_digit b) (eqb b 13) refl refl (ended_from (k + 1) (n * 10 + digit_of b) bs (omega arith))
  where
    by_byte : (digit cr : Bool) → is_digit b ≡ digit → eqb b 13 ≡ cr
        → ended_of (bytes_of (so_far (k + 1) (n * 10 + digit_of b)) bs) ≡ read_from (k + 1) (n * 10 + digit_of b) (without_cr bs)
        → ended_of (bytes_of (byte_of (so_far k n) b) bs) ≡ read_from k n (without_cr (b ∷ bs))
    by_byte true cr digit cr-is rest =
        ap (λ l. ended_of (bytes_of l bs)) (so_far_more k n b (omega arith) digit)
        ∙ rest
        ∙ read_more k n b (without_cr bs) digit
        ∙ sym (ap (read_from k n) (without_cr_more b bs (λ is. omega (arith, (range_of_digit b digit).0))))
    by_byte false true other cr-is rest =
        let is : b ≡ 13 = eqb-true b 13 cr-is in
        ap (λ l. ended_of (bytes_of l bs)) (byte_is_cr (so_far k n) b refl refl is)
        ∙ ended_cr k n bs
        ∙ sym (ap (λ c. read_from k n (without_cr (c ∷ bs))) is)
    by_byte false false other cr-is rest =
        let differs : b ≡ 13 → ⊥ = eqb-false b 13 cr-is in
        ap (λ l. ended_of (bytes_of l bs)) (byte_is_other (so_far k n) b refl refl differs other)
        ∙ ended_after_wrong (wrong_line (so_far k n) b) bs refl
        ∙ sym (ap (read_from k n) (without_cr_more b bs differs) ∙ read_other k n b (without_cr bs) other)

pub an_ended_line_is_read : AnEndedLineIsRead
an_ended_line_is_read line few = ended_from 0 0 line (omega arith) ∙ read_whole (without_cr line)
