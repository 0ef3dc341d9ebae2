-- The stream as a number: what a value in front adds, that it stays below 2 ^ (total bits), and that its bytes stand for it.
-- By induction on the stream; a value is put in front by moving the rest up by its width.
use mathlib.Core.Path.{◌≡◌, refl, sym, ap, ◌∙◌, subst}
use mathlib.Core.List.{List, [], ◌∷◌, ◌++◌}
use Prim.Native.Nat.{ℕ, suc, ◌+◌, ◌*◌, ◌^◌, ◌≤◌, ◌<◌}
use native.Mathlib.Nat.{mul_comm, mul_assoc, lt_of_lt_of_le, mul-le-mul_left, zero-add, mul-add, mul-suc, suc-mul}
use native.Mathlib.Omega.{arith}
use lib.Dec.{lit<}
use lib.Pow.{pow_mono, pow-add}
use lib.ListN.{length}
use Rattle.bit_rule.specs.Bytes.{AreBytes, number, bytes_for}
use Rattle.bit_rule.specs.Stream.{Piece, total_bits, sum_from, stream_number, stream_bytes, Fit, of_width}
use Rattle.bit_rule.proofs.Bytes.{pow_bytes, length-bytes_of, bytes_of_are_bytes, number_of_bytes_of}

-- a stream that begins at bit `at` is the stream times 2 ^ at
sum_from_up : (at : ℕ) (ps : List Piece) → sum_from at ps ≡ 2 ^ at * sum_from 0 ps
unfolding sum_from
sum_from_up at [] = omega arith
sum_from_up at (p ∷ ps) =
    let rest = sum_from 0 ps in
    let here : sum_from (at + p.width) ps ≡ 2 ^ at * (2 ^ p.width * rest) =
    sum_from_up (at + p.width) ps ∙ ap (λ y. y * rest) (pow-add 2 at p.width) ∙ mul_assoc (2 ^ at) (2 ^ p.width) rest in
    let there : sum_from (0 + p.width) ps ≡ 2 ^ p.width * rest =
    ap (λ k. sum_from k ps) (zero-add p.width) ∙ sum_from_up p.width ps in
    let whole : p.value * 2 ^ 0 + sum_from (0 + p.width) ps ≡ p.value + 2 ^ p.width * rest = omega (arith, there) in
    let spread = ap (λ y. 2 ^ at * y) whole ∙ mul-add (2 ^ at) p.value (2 ^ p.width * rest) in
    omega (arith, here, spread, mul_comm p.value (2 ^ at))

-- a value in front: the rest moves up by its width
pub stream_number-cons : (p : Piece) (ps : List Piece) → stream_number (p ∷ ps) ≡ p.value + 2 ^ p.width * stream_number ps
unfolding stream_number sum_from
stream_number-cons p ps =
    omega (arith, ap (λ k. sum_from k ps) (zero-add p.width) ∙ sum_from_up p.width ps)

pub stream_number-nil : stream_number [] ≡ 0
unfolding stream_number sum_from
stream_number-nil = refl

pub total_bits-append : (ps qs : List Piece) → total_bits (ps ++ qs) ≡ total_bits ps + total_bits qs
unfolding total_bits
total_bits-append [] qs = omega arith
total_bits-append (p ∷ ps) qs = omega (arith, total_bits-append ps qs)

-- two streams one after the other: the second moves up by the first one's bits
pub stream_number-append : (ps qs : List Piece) → stream_number (ps ++ qs) ≡ stream_number ps + 2 ^ total_bits ps * stream_number qs
unfolding total_bits
stream_number-append [] qs = omega (arith, stream_number-nil)
stream_number-append (p ∷ ps) qs =
    let w = 2 ^ p.width in
    let both = ap (λ x. w * x) (stream_number-append ps qs) ∙ mul-add w (stream_number ps) (2 ^ total_bits ps * stream_number qs) in
    let up = ap (λ x. x * stream_number qs) (pow-add 2 p.width (total_bits ps)) ∙ mul_assoc w (2 ^ total_bits ps) (stream_number qs) in
    omega (arith, stream_number-cons p (ps ++ qs), stream_number-cons p ps, both, up)

-- values that fit their widths stay below the stream's total: the spare high bits are 0
pub stream_number-lt : (ps : List Piece) → Fit ps → stream_number ps < 2 ^ total_bits ps
unfolding total_bits
stream_number-lt [] f = subst (λ x. x < 1) (sym stream_number-nil) (lit< tt)
stream_number-lt (p ∷ ps) f =
    let w = 2 ^ p.width in
    let rest : suc (stream_number ps) ≤ 2 ^ total_bits ps = stream_number-lt ps f.1 in
    let scaled = mul-le-mul_left w rest in
    omega (arith, stream_number-cons p ps, pow-add 2 p.width (total_bits ps), scaled, mul-suc w (stream_number ps), f.0)

-- ceil(bits / 8) bytes have room for so many bits
pub bytes_for_enough : (bits : ℕ) → bits ≤ 8 * bytes_for bits
bytes_for_enough bits = omega arith

pub length-stream_bytes : (ps : List Piece) → length (stream_bytes ps) ≡ bytes_for (total_bits ps)
unfolding stream_bytes
length-stream_bytes ps = length-bytes_of (bytes_for (total_bits ps)) (stream_number ps)

pub stream_bytes_are_bytes : (ps : List Piece) → AreBytes (stream_bytes ps)
unfolding stream_bytes
stream_bytes_are_bytes ps = bytes_of_are_bytes (bytes_for (total_bits ps)) (stream_number ps)

pub number-stream_bytes : (ps : List Piece) → Fit ps → number (stream_bytes ps) ≡ stream_number ps
unfolding stream_bytes
number-stream_bytes ps f =
    let n = bytes_for (total_bits ps) in
    number_of_bytes_of n
    (subst (λ x. stream_number ps < x) (sym (pow_bytes n)) (lt_of_lt_of_le (stream_number-lt ps f) (pow_mono (bytes_for_enough (total_bits ps)))))

-- a column of one width
pub total_bits-of_width : (w : ℕ) (vs : List ℕ) → total_bits (of_width w vs) ≡ length vs * w
unfolding total_bits
total_bits-of_width w [] = omega arith
total_bits-of_width w (v ∷ vs) = omega (arith, total_bits-of_width w vs, suc-mul (length vs) w)
