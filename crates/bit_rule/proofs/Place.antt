-- The value at a place, both ways: a stream's values are read back, and bytes whose spare bits are 0 are the stream of the values read
-- from them. Bytes that follow change nothing, and eight bytes around a place are enough to read it.
-- Everything is about one number cut by powers of two: lib.Pow has the cuts.
use mathlib.Core.Path.{◌≡◌, refl, sym, ap, ap₂, ◌∙◌, subst}
use mathlib.Core.Logic.{⊎_elim}
use mathlib.Core.Bool.{true}
use mathlib.Core.List.{List, [], ◌∷◌, ◌++◌}
use Prim.Native.Nat.{ℕ, zero, suc, ◌+◌, ◌-◌, ◌*◌, ◌/◌, ◌%◌, ◌^◌, ◌≤◌, ◌<◌}
use native.Mathlib.Nat.{mul_comm, mul_assoc, mod-eq_of_lt, div-eq_of_lt, add-mul-div_left, add-mul-mod_self_left, suc-mul, zero-mul, zero-add, add_comm, div-one, le_trans, mul-le-mul_right, add-zero, suc-add, add-mul, mod-lt}
use native.Mathlib.Numerals.{add-one}
use native.Mathlib.Omega.{arith}
use lib.Pow.{pow_pos, pow-add, shr-shr, mod-pow-add, field, mod-mod-pow}
use lib.ListN.{length, get_or, take, drop, replicate}
use lib.Seq.{split_at, length-take-le, ext_get_or, get_or-drop}
use Rattle.bit_rule.specs.Bytes.{AreBytes, number, bytes_of, bytes_for}
use Rattle.bit_rule.specs.Stream.{Piece, total_bits, stream_number, stream_bytes, Fit, piece_at, of_width}
use Rattle.bit_rule.specs.Place.{bits_at, value_at, values_from, pieces_from}
use Rattle.bit_rule.specs.Width.{legal_width}
use Rattle.bit_rule.proofs.Width.{legal_cases}
use Rattle.bit_rule.proofs.Bytes.{pow_bytes, number_append, bytes_of-number, number-drop, number-take}
use Rattle.bit_rule.proofs.Stream.{stream_number-nil, stream_number-cons, stream_number-append, stream_number-lt, total_bits-of_width, number-stream_bytes, length-stream_bytes}

-- ---- what stands above the bits that are read does not matter

cut_below : (n m at w more : ℕ) → (n + 2 ^ (at + w + more) * m) / 2 ^ at % 2 ^ w ≡ n / 2 ^ at % 2 ^ w
cut_below n m at w more =
    let above = 2 ^ more * m in
    let up : 2 ^ (at + w + more) * m ≡ 2 ^ at * (2 ^ w * above) =
    ap (λ x. x * m) (pow-add 2 (at + w) more ∙ ap (λ y. y * 2 ^ more) (pow-add 2 at w))
    ∙ mul_assoc (2 ^ at * 2 ^ w) (2 ^ more) m
    ∙ mul_assoc (2 ^ at) (2 ^ w) above in
    ap (λ x. (n + x) / 2 ^ at % 2 ^ w) up
    ∙ ap (λ x. x % 2 ^ w) (add-mul-div_left n (2 ^ w * above) (pow_pos at))
    ∙ add-mul-mod_self_left (n / 2 ^ at) (2 ^ w) above

-- bytes after the data change no bits that lie in the data
pub bits_at-append : (xs ys : List ℕ) (at w : ℕ) → at + w ≤ 8 * length xs → bits_at at w (xs ++ ys) ≡ bits_at at w xs
unfolding bits_at
bits_at-append xs ys at w h =
    let whole : 8 * length xs ≡ at + w + (8 * length xs - (at + w)) = omega arith in
    ap (λ x. x / 2 ^ at % 2 ^ w)
    (number_append xs ys ∙ ap (λ x. number xs + x * number ys) (pow_bytes (length xs) ∙ ap (λ x. 2 ^ x) whole))
    ∙ cut_below (number xs) (number ys) at w (8 * length xs - (at + w))

pub value_at-append : (xs ys : List ℕ) (w i : ℕ) → (i + 1) * w ≤ 8 * length xs → value_at w i (xs ++ ys) ≡ value_at w i xs
unfolding value_at
value_at-append xs ys w i h = bits_at-append xs ys (i * w) w (omega (arith, ap (λ k. k * w) (add-one i), suc-mul i w))

-- at width 0 every value is 0
pub value_at-zero : (i : ℕ) (xs : List ℕ) → value_at 0 i xs ≡ 0
unfolding value_at bits_at
value_at-zero i xs = omega arith

-- ---- a stream's values are read back

pub fit_append : (ps qs : List Piece) → Fit (ps ++ qs) → Fit ps × Fit qs
fit_append [] qs f = (tt, f)
fit_append (p ∷ ps) qs f = let rest = fit_append ps qs f.1 in ((f.0, rest.0), rest.1)

-- the value p of a stream, read at the place that the widths before it give
pub read_stream : (ps : List Piece) (p : Piece) (qs : List Piece) → Fit (ps ++ p ∷ qs) → bits_at (total_bits ps) p.width (stream_bytes (ps ++ p ∷ qs)) ≡ p.value
unfolding bits_at
read_stream ps p qs f =
    let parts = fit_append ps (p ∷ qs) f in
    let before = stream_number ps in
    let from = p.value + 2 ^ p.width * stream_number qs in
    let whole : number (stream_bytes (ps ++ p ∷ qs)) ≡ before + 2 ^ total_bits ps * from =
    number-stream_bytes (ps ++ p ∷ qs) f
    ∙ stream_number-append ps (p ∷ qs)
    ∙ ap (λ x. before + 2 ^ total_bits ps * x) (stream_number-cons p qs) in
    let high : (before + 2 ^ total_bits ps * from) / 2 ^ total_bits ps ≡ from =
    add-mul-div_left before from (pow_pos (total_bits ps)) ∙ omega (arith, div-eq_of_lt (stream_number-lt ps parts.0)) in
    ap (λ x. x / 2 ^ total_bits ps % 2 ^ p.width) whole
    ∙ ap (λ x. x % 2 ^ p.width) high
    ∙ add-mul-mod_self_left p.value (2 ^ p.width) (stream_number qs)
    ∙ mod-eq_of_lt parts.1.0

of_width-append : (w : ℕ) (us vs : List ℕ) → of_width w (us ++ vs) ≡ of_width w us ++ of_width w vs
of_width-append w [] vs = refl
of_width-append w (u ∷ us) vs = ap (λ l. piece_at w u ∷ l) (of_width-append w us vs)

pub read_column : (w : ℕ) (vs : List ℕ) (i : ℕ) → Fit (of_width w vs) → i < length vs → value_at w i (stream_bytes (of_width w vs)) ≡ get_or vs i 0
unfolding value_at
read_column w vs i f h =
    let v = get_or vs i 0 in
    let parts : of_width w vs ≡ of_width w (take i vs) ++ piece_at w v ∷ of_width w (drop (suc i) vs) =
    ap (of_width w) (split_at vs i 0 h) ∙ of_width-append w (take i vs) (v ∷ drop (suc i) vs) in
    let bits : total_bits (of_width w (take i vs)) ≡ i * w =
    total_bits-of_width w (take i vs) ∙ ap (λ n. n * w) (length-take-le i vs (omega arith)) in
    ap₂ (λ at ps. bits_at at w (stream_bytes ps)) (sym bits) parts
    ∙ read_stream (of_width w (take i vs)) (piece_at w v) (of_width w (drop (suc i) vs)) (subst Fit parts f)

-- ---- stretches of a column

pub length-values_from : (w i n : ℕ) (bs : List ℕ) → length (values_from w i n bs) ≡ n
unfolding values_from
length-values_from w i zero bs = refl
length-values_from w i (suc n) bs = ap suc (length-values_from w (i + 1) n bs)

pub get_or-values_from : (w i n : ℕ) (bs : List ℕ) (j : ℕ) → j < n → get_or (values_from w i n bs) j 0 ≡ value_at w (i + j) bs
unfolding values_from
get_or-values_from w i zero bs j h = absurd (omega arith)
get_or-values_from w i (suc n) bs zero h = ap (λ k. value_at w k bs) (omega arith)
get_or-values_from w i (suc n) bs (suc j) h =
    get_or-values_from w (i + 1) n bs j (omega arith) ∙ ap (λ k. value_at w k bs) (omega arith)

-- one more value behind a stretch
values_then : (w n i : ℕ) (bs : List ℕ) → values_from w i (suc n) bs ≡ values_from w i n bs ++ (value_at w (i + n) bs ∷ [])
unfolding values_from
values_then w zero i bs = ap (λ k. value_at w k bs ∷ []) (omega arith)
values_then w (suc n) i bs =
    ap (λ l. value_at w i bs ∷ l) (values_then w n (i + 1) bs ∙ ap (λ k. values_from w (i + 1) n bs ++ (value_at w k bs ∷ [])) (omega arith))

pub values_from_then : (w i n : ℕ) (bs : List ℕ) → values_from w i (n + 1) bs ≡ values_from w i n bs ++ (value_at w (i + n) bs ∷ [])
values_from_then w i n bs = ap (λ k. values_from w i k bs) (add-one n) ∙ values_then w n i bs

-- a stretch is one stretch and the next
pub values_from-add : (w i n m : ℕ) (bs : List ℕ) → values_from w i (n + m) bs ≡ values_from w i n bs ++ values_from w (i + n) m bs
unfolding values_from
values_from-add w i zero m bs = ap₂ (λ k j. values_from w j k bs) (zero-add m) (sym (add-zero i))
values_from-add w i (suc n) m bs =
    ap (λ k. values_from w i k bs) (suc-add n m)
    ∙ ap (λ l. value_at w i bs ∷ l) (values_from-add w (i + 1) n m bs ∙ ap (λ k. values_from w (i + 1) n bs ++ values_from w k m bs) (omega arith))

-- a value is below 2 ^ width
pub value_at-lt : (w i : ℕ) (bs : List ℕ) → value_at w i bs < 2 ^ w
unfolding value_at bits_at
value_at-lt w i bs = mod-lt (number bs / 2 ^ (i * w)) (pow_pos w)

pub values_from-lt : (w i n : ℕ) (bs : List ℕ) (j : ℕ) → get_or (values_from w i n bs) j 0 < 2 ^ w
unfolding values_from
values_from-lt w i zero bs j = pow_pos w
values_from-lt w i (suc n) bs zero = value_at-lt w i bs
values_from-lt w i (suc n) bs (suc j) = values_from-lt w (i + 1) n bs j

-- a column that was packed is read back whole, whatever bytes follow it
pub read_back : (w : ℕ) (vs rest : List ℕ) → Fit (of_width w vs) → values_from w 0 (length vs) (stream_bytes (of_width w vs) ++ rest) ≡ vs
read_back w vs rest f =
    let bytes = stream_bytes (of_width w vs) in
    let n = length vs in
    let room : n * w ≤ 8 * length bytes =
    omega (arith, length-stream_bytes (of_width w vs), total_bits-of_width w vs) in
    ext_get_or 0 (values_from w 0 n (bytes ++ rest)) vs (length-values_from w 0 n (bytes ++ rest))
    (λ i h.
    let below : i < n = subst (λ k. i < k) (length-values_from w 0 n (bytes ++ rest)) h in
    let inside : (i + 1) * w ≤ 8 * length bytes = le_trans (mul-le-mul_right w (omega arith)) room in
    get_or-values_from w 0 n (bytes ++ rest) i below
    ∙ ap (λ k. value_at w k (bytes ++ rest)) (zero-add i)
    ∙ value_at-append bytes rest w i inside
    ∙ read_column w vs i f below)

-- ---- bytes whose spare bits are 0 are the stream of what is read from them

pub total_bits-pieces_from : (at : ℕ) (ws bs : List ℕ) → total_bits (pieces_from at ws bs) ≡ total_bits (pieces_from 0 ws [])
unfolding pieces_from total_bits
total_bits-pieces_from at [] bs = refl
total_bits-pieces_from at (w ∷ ws) bs = ap (λ t. w + t) (total_bits-pieces_from (at + w) ws bs ∙ sym (total_bits-pieces_from (0 + w) ws []))

-- what is read from bit `at` on, put together again, is the number from there on, cut to those widths
pieces_number : (at : ℕ) (ws bs : List ℕ) → stream_number (pieces_from at ws bs) ≡ number bs / 2 ^ at % 2 ^ total_bits (pieces_from at ws bs)
unfolding pieces_from total_bits bits_at
pieces_number at [] bs = stream_number-nil ∙ omega arith
pieces_number at (w ∷ ws) bs =
    let n = number bs in
    let ps = pieces_from (at + w) ws bs in
    let t = total_bits ps in
    let rest : stream_number ps ≡ n / 2 ^ at / 2 ^ w % 2 ^ t =
    pieces_number (at + w) ws bs ∙ ap (λ x. x % 2 ^ t) (sym (shr-shr n at w)) in
    stream_number-cons (record { value = n / 2 ^ at % 2 ^ w; width = w }) ps
    ∙ omega (arith, ap (λ x. 2 ^ w * x) rest, mul_comm (2 ^ w) (n / 2 ^ at / 2 ^ w % 2 ^ t), mod-pow-add (n / 2 ^ at) t w, ap (λ x. n / 2 ^ at % 2 ^ x) (add_comm w t))

pub stream_of_read : (ws bs : List ℕ) → AreBytes bs
    → length bs ≡ bytes_for (total_bits (pieces_from 0 ws bs)) → number bs < 2 ^ total_bits (pieces_from 0 ws bs)
    → stream_bytes (pieces_from 0 ws bs) ≡ bs
unfolding stream_bytes
stream_of_read ws bs bytes l spare =
    let t = total_bits (pieces_from 0 ws bs) in
    let whole : stream_number (pieces_from 0 ws bs) ≡ number bs =
    pieces_number 0 ws bs ∙ ap (λ x. x % 2 ^ t) (div-one (number bs)) ∙ mod-eq_of_lt spare in
    ap₂ bytes_of (sym l) whole ∙ bytes_of-number bs bytes

-- one width is the case of n equal widths
column_pieces : (w i n : ℕ) (bs : List ℕ) → of_width w (values_from w i n bs) ≡ pieces_from (i * w) (replicate n w) bs
unfolding values_from pieces_from value_at
column_pieces w i zero bs = refl
column_pieces w i (suc n) bs =
    ap (λ l. piece_at w (bits_at (i * w) w bs) ∷ l)
    (column_pieces w (i + 1) n bs ∙ ap (λ at. pieces_from at (replicate n w) bs) (ap (λ k. k * w) (add-one i) ∙ suc-mul i w))

pub column_of_read : (w n : ℕ) (bs : List ℕ) → AreBytes bs → length bs ≡ bytes_for (n * w) → number bs < 2 ^ (n * w)
    → stream_bytes (of_width w (values_from w 0 n bs)) ≡ bs
column_of_read w n bs bytes l spare =
    let vs = values_from w 0 n bs in
    let pieces : of_width w vs ≡ pieces_from 0 (replicate n w) bs =
    column_pieces w 0 n bs ∙ ap (λ at. pieces_from at (replicate n w) bs) (zero-mul w) in
    let bits : total_bits (pieces_from 0 (replicate n w) bs) ≡ n * w =
    ap total_bits (sym pieces) ∙ total_bits-of_width w vs ∙ ap (λ k. k * w) (length-values_from w 0 n bs) in
    ap stream_bytes pieces
    ∙ stream_of_read (replicate n w) bs bytes (l ∙ ap bytes_for (sym bits)) (subst (λ t. number bs < 2 ^ t) (sym bits) spare)

-- ---- eight bytes are enough

-- w bits from bit s on, of a number cut to k bits, where they end within those
pub cut_above : (m s w k : ℕ) → s + w ≤ k → m % 2 ^ k / 2 ^ s % 2 ^ w ≡ m / 2 ^ s % 2 ^ w
cut_above m s w k h =
    let j = k - s in
    let above : k ≡ j + s = omega arith in
    let within : j ≡ (j - w) + w = omega arith in
    ap (λ x. m % 2 ^ x / 2 ^ s % 2 ^ w) above
    ∙ ap (λ x. x % 2 ^ w) (field m j s ∙ ap (λ x. m / 2 ^ s % 2 ^ x) within)
    ∙ mod-mod-pow (m / 2 ^ s) (j - w) w

pub drop_are_bytes : (a : ℕ) (bs : List ℕ) → AreBytes bs → AreBytes (drop a bs)
drop_are_bytes a bs bytes i = subst (λ b. b < 256) (sym (get_or-drop a bs i 0)) (bytes (a + i))

-- The bits from `at` on, read from the eight bytes at byte at / 8, where they end within those.
pub bits_at_load : (at w : ℕ) (bs : List ℕ) → AreBytes bs → at % 8 + w ≤ 64
    → bits_at at w bs ≡ number (take 8 (drop (at / 8) bs)) / 2 ^ (at % 8) % 2 ^ w
unfolding bits_at
bits_at_load at w bs bytes h =
    let n = number bs in
    let a = at / 8 in
    let s = at % 8 in
    let loaded : number (take 8 (drop a bs)) ≡ n / 2 ^ (8 * a) % 2 ^ 64 =
    number-take 8 (drop a bs) (drop_are_bytes a bs bytes)
    ∙ ap (λ x. x % 2 ^ 64) (number-drop a bs bytes ∙ ap (λ x. n / x) (pow_bytes a)) in
    let whole : 8 * a + s ≡ at = omega arith in
    sym
    (ap (λ x. x / 2 ^ s % 2 ^ w) loaded
    ∙ cut_above (n / 2 ^ (8 * a)) s w 64 h
    ∙ ap (λ x. x % 2 ^ w) (shr-shr n (8 * a) s ∙ ap (λ x. n / 2 ^ x) whole))

-- A value of a legal width lies within the eight bytes at the byte in which it starts.
pub legal_span : (w i : ℕ) → legal_width w ≡ true → i * w % 8 + w ≤ 64
legal_span w i legal =
    ⊎_elim (λ low. omega arith) (λ top. subst (λ k. i * k % 8 + k ≤ 64) (sym top) (omega arith)) (legal_cases w legal)

-- ---- a part of the data that starts where a value does

pub value_at-drop : (w a k i : ℕ) (bs : List ℕ) → AreBytes bs → 8 * a ≡ k * w → value_at w i (drop a bs) ≡ value_at w (k + i) bs
unfolding value_at bits_at
value_at-drop w a k i bs bytes starts =
    ap (λ n. n / 2 ^ (i * w) % 2 ^ w) (number-drop a bs bytes ∙ ap (λ x. number bs / x) (pow_bytes a))
    ∙ ap (λ n. n % 2 ^ w) (shr-shr (number bs) (8 * a) (i * w) ∙ ap (λ b. number bs / 2 ^ b) (omega (arith, starts, add-mul k i w)))

pub values_from-drop : (w a k i n : ℕ) (bs : List ℕ) → AreBytes bs → 8 * a ≡ k * w → values_from w i n (drop a bs) ≡ values_from w (k + i) n bs
unfolding values_from
values_from-drop w a k i zero bs bytes starts = refl
values_from-drop w a k i (suc n) bs bytes starts =
    ap₂ (λ v l. v ∷ l) (value_at-drop w a k i bs bytes starts)
    (values_from-drop w a k (i + 1) n bs bytes starts ∙ ap (λ j. values_from w j n bs) (omega arith))
