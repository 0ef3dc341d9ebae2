-- Bytes and numbers: each of `number` and `bytes_of` undoes the other, and a window into a list of bytes is read byte by byte.
-- All by induction on the list or on the count of bytes.
use mathlib.Core.Path.{◌≡◌, refl, sym, ap, ap₂, ◌∙◌, subst}
use mathlib.Core.List.{List, [], ◌∷◌, ◌++◌}
use Prim.Native.Nat.{ℕ, zero, suc, ◌+◌, ◌-◌, ◌*◌, ◌/◌, ◌%◌, ◌^◌, ◌≤◌, ◌<◌}
use native.Mathlib.Nat.{pow-suc, mul_comm, mul_assoc, mod-eq_of_lt, zero-div, zero-mod, mul-le-mul, div-div-eq-div-mul, zero-add, suc-add, div-one, mod-mod}
use native.Mathlib.Numerals.{towards_suc}
use native.Mathlib.Omega.{arith}
use lib.Dec.{lit<}
use lib.Arith.{mod-mul}
use lib.Pow as Pow
use lib.ListN.{length, get_or, take, drop}
use lib.Seq.{take-nil, take_at, take_all}
use Rattle.std.specs.Int.{to_le_bytes, from_le_bytes, w64}
use Rattle.bit_rule.specs.Bytes.{AreBytes, number, bytes_of, bytes_for}

-- a byte is eight bits
pub pow_bytes : (n : ℕ) → 256 ^ n ≡ 2 ^ (8 * n)
pow_bytes zero = refl
pow_bytes (suc n) =
    pow-suc 256 n
    ∙ ap (λ x. x * 256) (pow_bytes n)
    ∙ sym (Pow.pow-add 2 (8 * n) 8)
    ∙ ap (λ x. 2 ^ x) (omega arith)

pub pow256_pos : (n : ℕ) → 0 < 256 ^ n
pow256_pos n = subst (λ x. 0 < x) (sym (pow_bytes n)) (Pow.pow_pos (8 * n))

pub tail_bytes : {b : ℕ} (bs : List ℕ) → AreBytes (b ∷ bs) → AreBytes bs
tail_bytes bs h i = h (suc i)

pub length-bytes_of : (n x : ℕ) → length (bytes_of n x) ≡ n
unfolding bytes_of
length-bytes_of zero x = refl
length-bytes_of (suc n) x = ap suc (length-bytes_of n (x / 256))

pub bytes_of_are_bytes : (n x : ℕ) → AreBytes (bytes_of n x)
unfolding bytes_of
bytes_of_are_bytes zero x i = lit< tt
bytes_of_are_bytes (suc n) x zero = omega arith
bytes_of_are_bytes (suc n) x (suc i) = bytes_of_are_bytes n (x / 256) i

-- a number cut into n bytes loses what is above them
pub number-bytes_of : (n x : ℕ) → number (bytes_of n x) ≡ x % 256 ^ n
unfolding number bytes_of
number-bytes_of zero x = omega arith
number-bytes_of (suc n) x =
    let split = mod-mul x (pow256_pos n) (lit< {m = 0} {n = 256} tt) in
    ap (λ y. x % 256 + 256 * y) (number-bytes_of n (x / 256)) ∙ omega (arith, split, ap (λ y. x % y) (pow-suc 256 n))

-- and nothing where it is below 256 ^ n
pub number_of_bytes_of : (n : ℕ) {x : ℕ} → x < 256 ^ n → number (bytes_of n x) ≡ x
number_of_bytes_of n {x} h = number-bytes_of n x ∙ mod-eq_of_lt h

pub number_lt : (bs : List ℕ) → AreBytes bs → number bs < 256 ^ length bs
unfolding number
number_lt [] h = lit< tt
number_lt (b ∷ bs) h =
    let tail = number_lt bs (tail_bytes bs h) in
    let head : b < 256 = h 0 in
    omega (arith, pow-suc 256 (length bs))

-- bytes are the bytes of their number
pub bytes_of-number : (bs : List ℕ) → AreBytes bs → bytes_of (length bs) (number bs) ≡ bs
unfolding number bytes_of
bytes_of-number [] h = refl
bytes_of-number (b ∷ bs) h =
    let head : b < 256 = h 0 in
    let low : (b + 256 * number bs) % 256 ≡ b = omega arith in
    let high : (b + 256 * number bs) / 256 ≡ number bs = omega arith in
    ap₂ (λ x y. x ∷ bytes_of (length bs) y) low high ∙ ap (λ l. b ∷ l) (bytes_of-number bs (tail_bytes bs h))

pub number_append : (xs ys : List ℕ) → number (xs ++ ys) ≡ number xs + 256 ^ length xs * number ys
unfolding number
number_append [] ys = omega arith
number_append (a ∷ xs) ys =
    let e = ap (λ x. x * number ys) (pow-suc 256 (length xs)) in
    let f : 256 ^ length xs * 256 * number ys ≡ 256 * (256 ^ length xs * number ys) =
    ap (λ x. x * number ys) (mul_comm (256 ^ length xs) 256) ∙ mul_assoc 256 (256 ^ length xs) (number ys) in
    ap (λ x. a + 256 * x) (number_append xs ys) ∙ omega (arith, e, f)

-- Two lists of the same length that stand for the same number are the same bytes.
pub number-injective : (xs ys : List ℕ) → AreBytes xs → AreBytes ys → length xs ≡ length ys → number xs ≡ number ys → xs ≡ ys
number-injective xs ys ha hb l e =
    sym (bytes_of-number xs ha) ∙ ap₂ (λ n x. bytes_of n x) l e ∙ bytes_of-number ys hb

-- A window of n bytes from byte a on, read from its first byte on. Past the end of the list a byte counts xs 0.
pub window : (n a : ℕ) (xs : List ℕ) → number (take (suc n) (drop a xs)) ≡ get_or xs a 0 + 256 * number (take n (drop (suc a) xs))
unfolding number
window n zero [] = simp take-nil
window n zero (x ∷ xs) = refl
window n (suc a) [] = simp take-nil
window n (suc a) (x ∷ xs) = window n a xs

-- dropping bytes divides, and taking bytes is a remainder
pub number-drop : (a : ℕ) (xs : List ℕ) → AreBytes xs → number (drop a xs) ≡ number xs / 256 ^ a
unfolding number
number-drop zero xs h = omega arith
number-drop (suc a) [] h = sym (zero-div (256 ^ suc a))
number-drop (suc a) (x ∷ xs) h =
    let head : x < 256 = h 0 in
    let high : (x + 256 * number xs) / 256 ≡ number xs = omega arith in
    number-drop a xs (tail_bytes xs h)
    ∙ ap (λ y. y / 256 ^ a) (sym high)
    ∙ div-div-eq-div-mul (x + 256 * number xs) 256 (256 ^ a)
    ∙ ap (λ y. (x + 256 * number xs) / y) (mul_comm 256 (256 ^ a) ∙ sym (pow-suc 256 a))

pub number-take : (n : ℕ) (xs : List ℕ) → AreBytes xs → number (take n xs) ≡ number xs % 256 ^ n
unfolding number
number-take zero xs h = omega arith
number-take (suc n) [] h = sym (zero-mod (256 ^ suc n))
number-take (suc n) (x ∷ xs) h =
    let head : x < 256 = h 0 in
    let low : (x + 256 * number xs) % 256 ≡ x = omega arith in
    let high : (x + 256 * number xs) / 256 ≡ number xs = omega arith in
    let split = mod-mul (x + 256 * number xs) (pow256_pos n) (lit< {m = 0} {n = 256} tt) in
    let rest = ap (λ y. y % 256 ^ n) high in
    omega (arith, number-take n xs (tail_bytes xs h), split, rest, ap (λ y. (x + 256 * number xs) % y) (pow-suc 256 n))

-- more bytes: those of the quotient follow
pub bytes_of-add : (a b x : ℕ) → bytes_of (a + b) x ≡ bytes_of a x ++ bytes_of b (x / 256 ^ a)
unfolding bytes_of
bytes_of-add zero b x = ap₂ bytes_of (zero-add b) (sym (div-one x))
bytes_of-add (suc a) b x =
    let quotient : x / 256 / 256 ^ a ≡ x / 256 ^ suc a =
    div-div-eq-div-mul x 256 (256 ^ a) ∙ ap (λ y. x / y) (mul_comm 256 (256 ^ a) ∙ sym (pow-suc 256 a)) in
    ap (λ n. bytes_of n x) (suc-add a b)
    ∙ ap (λ l. x % 256 ∷ l) (bytes_of-add a b (x / 256) ∙ ap (λ y. bytes_of a (x / 256) ++ bytes_of b y) quotient)

-- std's eight bytes of a word are these, and its first n are the n lowest
pub word_bytes : (x : ℕ) → to_le_bytes w64 x ≡ bytes_of 8 x
unfolding bytes_of
word_bytes x = simp div-div-eq-div-mul

pub low_bytes : (n x : ℕ) → n ≤ 8 → take n (to_le_bytes w64 x) ≡ bytes_of n x
low_bytes n x few =
    let whole : 8 ≡ n + (8 - n) = omega arith in
    ap (take n) (word_bytes x ∙ ap (λ k. bytes_of k x) whole ∙ bytes_of-add n (8 - n) x)
    ∙ take_at (bytes_of n x) (bytes_of (8 - n) (x / 256 ^ n)) n (length-bytes_of n x)

-- what stands above n bytes does not matter to them
pub bytes_of_cut : (n x : ℕ) → bytes_of n (x % 256 ^ n) ≡ bytes_of n x
bytes_of_cut n x =
    let cut : number (bytes_of n (x % 256 ^ n)) ≡ number (bytes_of n x) =
    number-bytes_of n (x % 256 ^ n) ∙ mod-mod x (256 ^ n) ∙ sym (number-bytes_of n x) in
    number-injective (bytes_of n (x % 256 ^ n)) (bytes_of n x) (bytes_of_are_bytes n (x % 256 ^ n)) (bytes_of_are_bytes n x)
    (length-bytes_of n (x % 256 ^ n) ∙ sym (length-bytes_of n x)) cut

-- eight bytes at a place, each by its index
link : (n a : ℕ) (xs : List ℕ) {y : ℕ} → number (take n (drop (suc a) xs)) ≡ y → number (take (suc n) (drop a xs)) ≡ get_or xs a 0 + 256 * y
link n a xs e = window n a xs ∙ ap (λ x. get_or xs a 0 + 256 * x) e

last : (a : ℕ) (xs : List ℕ) → number (take 1 (drop a xs)) ≡ get_or xs a 0
unfolding number
last a xs = window 0 a xs ∙ omega arith

pub window_word : (a : ℕ) (xs : List ℕ)
    → number (take 8 (drop a xs))
    ≡ get_or xs a 0
    + 256
    * (get_or xs (a + 1) 0
    + 256
    * (get_or xs (a + 2) 0
    + 256
    * (get_or xs (a + 3) 0 + 256 * (get_or xs (a + 4) 0 + 256 * (get_or xs (a + 5) 0 + 256 * (get_or xs (a + 6) 0 + 256 * get_or xs (a + 7) 0))))))
window_word a xs =
    simp towards_suc
    (link 7 a xs
    (link 6 (suc a) xs
    (link 5 (suc (suc a)) xs
    (link 4 (suc (suc (suc a))) xs
    (link 3 (suc (suc (suc (suc a)))) xs
    (link 2 (suc (suc (suc (suc (suc a))))) xs
    (link 1 (suc (suc (suc (suc (suc (suc a)))))) xs (last (suc (suc (suc (suc (suc (suc (suc a))))))) xs))))))))

-- the number that std makes of a word's eight bytes is the one that they stand for
pub word_number : (word : List ℕ) → length word ≡ 8 → from_le_bytes w64 word ≡ number word
word_number word eight =
    let whole : take 8 word ≡ word = take_all 8 word (omega arith) in
    omega (arith, window_word 0 word, ap number whole)

-- a column of fewer than 2 ^ 60 values takes half of the address space at most
pub column_half : (n w : ℕ) → n < 2 ^ 60 → w ≤ 64 → bytes_for (n * w) ≤ 2 ^ 63
column_half n w few narrow = let most : n ≤ 2 ^ 60 - 1 = omega arith in omega (arith, mul-le-mul most narrow)
