-- A whole run leaves exactly the stream's bytes. After the values ps, the packer has emitted `emitted_of ps` bytes, holds what is left of
-- their stream's number above those (`held_of ps`), and the output begins with the number's bytes (`so_far ps`). One more value moves all
-- three on by one (`write_more`), and a flush ends the stream (`flush_all`): a loop that packs has these three as its invariant.
use mathlib.Core.Path.{◌≡◌, refl, sym, ap, ap₂, ◌∙◌, subst}
use mathlib.Core.List.{List, [], ◌∷◌, ◌++◌, append_assoc, append-nil}
use mathlib.Core.Bool.{false}
use Prim.Native.Nat.{ℕ, ◌+◌, ◌-◌, ◌*◌, ◌/◌, ◌%◌, ◌^◌, ◌≤◌, ◌<◌}
use native.Mathlib.Nat.{mul_comm, mul_assoc, add-zero, mul-zero, add-mul-div_left, add-mul-mod_self_left, div-div-eq-div-mul}
use native.Mathlib.Omega.{arith}
use lib.Pow.{pow-add, shr_lt}
use lib.ListN.{length, take, drop, length-drop, take-append-drop}
use lib.Seq.{take_at, drop_at, drop-drop, append_snoc}
use borrow.Author.Tests.{lt-leb}
use Rattle.bit_rule.specs.Bytes.{bytes_of, bytes_for}
use Rattle.bit_rule.specs.Stream.{Piece, total_bits, stream_number, stream_bytes, Fit}
use Rattle.bit_rule.proofs.Bytes.{pow_bytes, pow256_pos, length-bytes_of, bytes_of-add, bytes_of_cut}
use Rattle.bit_rule.proofs.Stream.{stream_number-nil, stream_number-cons, stream_number-append, stream_number-lt, total_bits-append}
use Rattle.bit_rule.proofs.Place.{fit_append}
use Rattle.refusal.specs.declared.Refusal.TheVariants.{NoRoom}
use Rattle.bitpacker.specs.declared.BitPacker.{BitPacker}
use Rattle.bitpacker.specs.Packer.{Outcome, outcome, refused, holding, fresh, emit, complete_bytes, damaged_packer, written, write_of, flush_of, emitting}
use Rattle.bitpacker.specs.Run.{after_part, go_on, run_from, pack_of}
use Rattle.bitpacker.proofs.Laws.{write_room, write_no_room, flush_room, flush_no_room}

-- ---- where a run stands after the values ps

abbrev pub emitted_of : List Piece → ℕ
emitted_of ps = complete_bytes (total_bits ps)

abbrev pub held_of : List Piece → BitPacker
held_of ps = holding (total_bits ps - 8 * emitted_of ps) (stream_number ps / 256 ^ emitted_of ps)

abbrev pub so_far : List Piece → List ℕ → List ℕ
so_far ps out = emit (emitted_of ps) (stream_number ps) out

infixl 60 ◌then◌
abbrev pub ◌then◌ : List Piece → Piece → List Piece
ps then x = ps ++ x ∷ []

-- a packer at its start holds nothing
pub held_nil : held_of [] ≡ fresh
unfolding total_bits
held_nil = ap (λ n. holding 0 (n / 1)) stream_number-nil

pub so_far-nil : (out : List ℕ) → so_far [] out ≡ out
unfolding total_bits bytes_of
so_far-nil out = refl

-- what is held lies below the bits that are held
pub held_sound : (ps : List Piece) → Fit ps → damaged_packer (held_of ps) ≡ false
unfolding damaged_packer
held_sound ps fit =
    let t = total_bits ps in
    let e = emitted_of ps in
    let rest = t - 8 * e in
    let whole : t ≡ rest + 8 * e = omega arith in
    let below : stream_number ps / 256 ^ e < 2 ^ rest =
    subst (λ x. stream_number ps / x < 2 ^ rest) (sym (pow_bytes e))
    (shr_lt rest (8 * e) (subst (λ x. stream_number ps < 2 ^ x) whole (stream_number-lt ps fit))) in
    simp (lt-leb 64 rest (omega arith)) (lt-leb (2 ^ rest) (stream_number ps / 256 ^ e) below)

-- the part that a run has not written yet
part_so_far : (ps : List Piece) (out : List ℕ) → drop (emitted_of ps) (so_far ps out) ≡ drop (emitted_of ps) out
part_so_far ps out = drop_at (bytes_of (emitted_of ps) (stream_number ps)) (drop (emitted_of ps) out) (emitted_of ps) (length-bytes_of (emitted_of ps) (stream_number ps))

length_part : (ps : List Piece) (out : List ℕ) → length (drop (emitted_of ps) (so_far ps out)) ≡ length out - emitted_of ps
length_part ps out = ap length (part_so_far ps out) ∙ length-drop (emitted_of ps) out

-- ---- one more value

bits_then : (ps : List Piece) (x : Piece) → total_bits (ps then x) ≡ total_bits ps + x.width
unfolding total_bits
bits_then ps x = total_bits-append ps (x ∷ []) ∙ ap (λ k. total_bits ps + k) (add-zero x.width)

number_then : (ps : List Piece) (x : Piece) → stream_number (ps then x) ≡ stream_number ps + 2 ^ total_bits ps * x.value
number_then ps x =
    let alone : stream_number (x ∷ []) ≡ x.value =
    stream_number-cons x [] ∙ ap (λ k. x.value + 2 ^ x.width * k) stream_number-nil ∙ ap (λ k. x.value + k) (mul-zero (2 ^ x.width)) ∙ add-zero x.value in
    stream_number-append ps (x ∷ []) ∙ ap (λ k. stream_number ps + 2 ^ total_bits ps * k) alone

module _ (ps : List Piece) (x : Piece) where
  -- how many bytes the value completes, where the packer holds what ps leaves
  completes : ℕ
  completes = complete_bytes (total_bits ps - 8 * emitted_of ps + x.width)

  emitted_then : emitted_of (ps then x) ≡ emitted_of ps + completes
  unfolding completes
  emitted_then = ap complete_bytes (bits_then ps x) ∙ omega arith

  -- the stream's number, as a sum above the bytes that were emitted
  above : stream_number (ps then x) ≡ stream_number ps + 256 ^ emitted_of ps * (x.value * 2 ^ (total_bits ps - 8 * emitted_of ps))
  above =
      let t = total_bits ps in
      let e = emitted_of ps in
      let rest = t - 8 * e in
      let whole : t ≡ 8 * e + rest = omega arith in
      let up : 2 ^ t * x.value ≡ 256 ^ e * (x.value * 2 ^ rest) =
      ap (λ k. k * x.value) (ap (λ k. 2 ^ k) whole ∙ pow-add 2 (8 * e) rest ∙ ap (λ k. k * 2 ^ rest) (sym (pow_bytes e)))
      ∙ mul_assoc (256 ^ e) (2 ^ rest) x.value
      ∙ ap (λ k. 256 ^ e * k) (mul_comm (2 ^ rest) x.value) in
      number_then ps x ∙ ap (λ k. stream_number ps + k) up

  sum_then : stream_number ps / 256 ^ emitted_of ps + x.value * 2 ^ (total_bits ps - 8 * emitted_of ps) ≡ stream_number (ps then x) / 256 ^ emitted_of ps
  sum_then =
      sym
      (ap (λ k. k / 256 ^ emitted_of ps) above
      ∙ add-mul-div_left (stream_number ps) (x.value * 2 ^ (total_bits ps - 8 * emitted_of ps)) (pow256_pos (emitted_of ps)))

  low_then : bytes_of (emitted_of ps) (stream_number (ps then x)) ≡ bytes_of (emitted_of ps) (stream_number ps)
  low_then =
      let e = emitted_of ps in
      sym (bytes_of_cut e (stream_number (ps then x)))
      ∙ ap (bytes_of e)
      (ap (λ k. k % 256 ^ e) above ∙ add-mul-mod_self_left (stream_number ps) (256 ^ e) (x.value * 2 ^ (total_bits ps - 8 * e)))
      ∙ bytes_of_cut e (stream_number ps)

  quotient_then : stream_number (ps then x) / 256 ^ emitted_of ps / 256 ^ completes ≡ stream_number (ps then x) / 256 ^ emitted_of (ps then x)
  quotient_then =
      div-div-eq-div-mul (stream_number (ps then x)) (256 ^ emitted_of ps) (256 ^ completes)
      ∙ ap (λ k. stream_number (ps then x) / k) (sym (pow-add 256 (emitted_of ps) completes) ∙ ap (λ k. 256 ^ k) (sym emitted_then))

  -- the bytes so far, and those that the value completes
  bytes_then : bytes_of (emitted_of (ps then x)) (stream_number (ps then x))
      ≡ bytes_of (emitted_of ps) (stream_number ps) ++ bytes_of completes (stream_number (ps then x) / 256 ^ emitted_of ps)
  bytes_then =
      ap (λ k. bytes_of k (stream_number (ps then x))) emitted_then
      ∙ bytes_of-add (emitted_of ps) completes (stream_number (ps then x))
      ∙ ap (λ l. l ++ bytes_of completes (stream_number (ps then x) / 256 ^ emitted_of ps)) low_then

  so_far_then : (out : List ℕ)
      → so_far (ps then x) out
      ≡ bytes_of (emitted_of ps) (stream_number ps) ++ emit completes (stream_number (ps then x) / 256 ^ emitted_of ps) (drop (emitted_of ps) out)
  so_far_then out =
      let e = emitted_of ps in
      let new = bytes_of completes (stream_number (ps then x) / 256 ^ e) in
      ap₂ (λ l k. l ++ drop k out) bytes_then emitted_then
      ∙ append_assoc (bytes_of e (stream_number ps)) new (drop (e + completes) out)
      ∙ ap (λ l. bytes_of e (stream_number ps) ++ (new ++ l)) (sym (drop-drop completes e out))

  -- the bytes that stood already stay, and what the call leaves of its part follows them
  pub part_then : (out : List ℕ) → take (emitted_of ps) (so_far ps out) ++ drop (emitted_of ps) (so_far (ps then x) out) ≡ so_far (ps then x) out
  part_then out =
      let e = emitted_of ps in
      let old = bytes_of e (stream_number ps) in
      let new = emit completes (stream_number (ps then x) / 256 ^ e) (drop e out) in
      ap₂ (λ l m. l ++ m) (take_at old (drop e out) e (length-bytes_of e (stream_number ps)))
      (ap (drop e) (so_far_then out) ∙ drop_at old new e (length-bytes_of e (stream_number ps)))
      ∙ sym (so_far_then out)

  written_then : (out : List ℕ)
      → written (held_of ps) x.value x.width (drop (emitted_of ps) (so_far ps out))
      ≡ outcome (emitting (held_of (ps then x)) (emitted_of (ps then x) - emitted_of ps)) (drop (emitted_of ps) (so_far (ps then x) out))
  unfolding written completes
  written_then out =
      let e = emitted_of ps in
      let part = drop e (so_far ps out) in
      let rest = total_bits ps - 8 * e in
      let above_bytes = stream_number (ps then x) / 256 ^ e in
      let left : rest + x.width - 8 * completes ≡ total_bits (ps then x) - 8 * emitted_of (ps then x) =
      omega (arith, emitted_then, bits_then ps x) in
      let more : completes ≡ emitted_of (ps then x) - e = omega (arith, emitted_then) in
      let old = bytes_of e (stream_number ps) in
      let bytes : emit completes above_bytes part ≡ drop e (so_far (ps then x) out) =
      ap (emit completes above_bytes) (part_so_far ps out)
      ∙ sym (drop_at old (emit completes above_bytes (drop e out)) e (length-bytes_of e (stream_number ps)))
      ∙ ap (drop e) (sym (so_far_then out)) in
      ap (λ sum. outcome (emitting (holding (rest + x.width - 8 * completes) (sum / 256 ^ completes)) completes) (emit completes sum part)) sum_then
      ∙ ap₂ (λ b q. outcome (emitting (holding b q) completes) (emit completes above_bytes part)) left quotient_then
      ∙ ap₂ (λ k l. outcome (emitting (held_of (ps then x)) k) l) more bytes

  -- a write with room moves the run on by one value
  pub write_more : (out : List ℕ) → Fit (ps then x) → x.width ≤ 64 → emitted_of (ps then x) ≤ length out
      → write_of (held_of ps) x.value x.width (drop (emitted_of ps) (so_far ps out))
      ≡ outcome (emitting (held_of (ps then x)) (emitted_of (ps then x) - emitted_of ps)) (drop (emitted_of ps) (so_far (ps then x) out))
  unfolding completes
  write_more out fit narrow room =
      let fits = fit_append ps (x ∷ []) fit in
      write_room (held_of ps) x.value x.width (drop (emitted_of ps) (so_far ps out)) (held_sound ps fits.0) narrow
      (lt-leb _ _ fits.1.0)
      (omega (arith, length_part ps out, emitted_then))
      ∙ written_then out

  -- a write that has to emit without room is refused
  pub write_stuck : (out : List ℕ) → Fit (ps then x) → x.width ≤ 64 → emitted_of ps ≤ length out → length out < emitted_of (ps then x)
      → write_of (held_of ps) x.value x.width (drop (emitted_of ps) (so_far ps out)) ≡ refused NoRoom (drop (emitted_of ps) (so_far ps out))
  unfolding completes
  write_stuck out fit narrow before short =
      let fits = fit_append ps (x ∷ []) fit in
      write_no_room (held_of ps) x.value x.width (drop (emitted_of ps) (so_far ps out)) (held_sound ps fits.0) narrow
      (lt-leb _ _ fits.1.0)
      (omega (arith, length_part ps out, emitted_then))

-- ---- the flush

-- the whole stream at the start of an output that has room for it; what follows it stays
abbrev pub packed : List Piece → List ℕ → List ℕ
packed ps out = stream_bytes ps ++ drop (bytes_for (total_bits ps)) out

module _ (ps : List Piece) (out : List ℕ) (fit : Fit ps) where
  ends : bytes_for (total_bits ps) ≡ emitted_of ps + bytes_for (total_bits ps - 8 * emitted_of ps)
  ends = omega arith

  bytes_ends : packed ps out ≡ bytes_of (emitted_of ps) (stream_number ps) ++ emit (bytes_for (total_bits ps - 8 * emitted_of ps)) (stream_number ps / 256 ^ emitted_of ps) (drop (emitted_of ps) out)
  unfolding stream_bytes
  bytes_ends =
      let e = emitted_of ps in
      let m = bytes_for (total_bits ps - 8 * e) in
      let last = bytes_of m (stream_number ps / 256 ^ e) in
      ap (λ k. bytes_of k (stream_number ps) ++ drop k out) ends
      ∙ ap (λ l. l ++ drop (e + m) out) (bytes_of-add e m (stream_number ps))
      ∙ append_assoc (bytes_of e (stream_number ps)) last (drop (e + m) out)
      ∙ ap (λ l. bytes_of e (stream_number ps) ++ (last ++ l)) (sym (drop-drop m e out))

  pub flush_all : bytes_for (total_bits ps) ≤ length out
      → flush_of (held_of ps) (drop (emitted_of ps) (so_far ps out))
      ≡ outcome (emitting fresh (bytes_for (total_bits ps) - emitted_of ps)) (drop (emitted_of ps) (packed ps out))
  flush_all room =
      let e = emitted_of ps in
      let m = bytes_for (total_bits ps - 8 * e) in
      let q = stream_number ps / 256 ^ e in
      let bytes : emit m q (drop e (so_far ps out)) ≡ drop e (packed ps out) =
      ap (emit m q) (part_so_far ps out)
      ∙ sym (drop_at (bytes_of e (stream_number ps)) (emit m q (drop e out)) e (length-bytes_of e (stream_number ps)))
      ∙ ap (drop e) (sym bytes_ends) in
      flush_room (held_of ps) (drop e (so_far ps out)) (held_sound ps fit) (omega (arith, length_part ps out, ends))
      ∙ ap₂ (λ k l. outcome (emitting fresh k) l) (omega (arith, ends)) bytes

  pub flush_stuck : emitted_of ps ≤ length out → length out < bytes_for (total_bits ps)
      → flush_of (held_of ps) (drop (emitted_of ps) (so_far ps out)) ≡ refused NoRoom (drop (emitted_of ps) (so_far ps out))
  flush_stuck before short =
      flush_no_room (held_of ps) (drop (emitted_of ps) (so_far ps out)) (held_sound ps fit) (omega (arith, length_part ps out, ends))

  pub part_packed : take (emitted_of ps) (so_far ps out) ++ drop (emitted_of ps) (packed ps out) ≡ packed ps out
  part_packed =
      let e = emitted_of ps in
      let old = bytes_of e (stream_number ps) in
      let last = emit (bytes_for (total_bits ps - 8 * e)) (stream_number ps / 256 ^ e) (drop e out) in
      ap₂ (λ l m. l ++ m) (take_at old (drop e out) e (length-bytes_of e (stream_number ps)))
      (ap (drop e) bytes_ends ∙ drop_at old last e (length-bytes_of e (stream_number ps)))
      ∙ sym bytes_ends

-- ---- a whole run

pub fit_then : (ps : List Piece) (x : Piece) → Fit ps → x.value < 2 ^ x.width → Fit (ps then x)
fit_then [] x fit fits = (fits, tt)
fit_then (p ∷ ps) x fit fits = (fit.0, fit_then ps x fit.1 fits)

-- each width is one that the packer takes
abbrev pub Narrow : List Piece → Type 0
Narrow [] = Unit {0}
Narrow (p ∷ ps) = (p.width ≤ 64) × Narrow ps

narrow_append : (ps qs : List Piece) → Narrow (ps ++ qs) → Narrow ps × Narrow qs
narrow_append [] qs n = (tt, n)
narrow_append (p ∷ ps) qs n = let rest = narrow_append ps qs n.1 in ((n.0, rest.0), rest.1)

-- the next call of a run, at the place where ps left it
abbrev after : List Piece → List ℕ → (BitPacker → ℕ → List ℕ → Outcome) → Outcome → Outcome
after ps out next o =
    go_on o.answer (λ q n. next q (emitted_of ps + n) (after_part (emitted_of ps) (so_far ps out) o)) (after_part (emitted_of ps) (so_far ps out) o)

stopped : (ps : List Piece) (out : List ℕ) (next : BitPacker → ℕ → List ℕ → Outcome)
    → after ps out next (refused NoRoom (drop (emitted_of ps) (so_far ps out))) ≡ refused NoRoom (so_far ps out)
stopped ps out next = ap (refused NoRoom) (take-append-drop (emitted_of ps) (so_far ps out))

-- a run over qs with room for what they complete goes on where ps and qs together leave it
run_more : (qs ps rest : List Piece) (out : List ℕ) → Fit (ps ++ qs) → Narrow qs → emitted_of (ps ++ qs) ≤ length out
    → run_from (qs ++ rest) (held_of ps) (emitted_of ps) (so_far ps out)
    ≡ run_from rest (held_of (ps ++ qs)) (emitted_of (ps ++ qs)) (so_far (ps ++ qs) out)
unfolding run_from
run_more [] ps rest out fit narrow room = ap (λ l. run_from rest (held_of l) (emitted_of l) (so_far l out)) (sym (append-nil ps))
run_more (x ∷ qs) ps rest out fit narrow room =
    let whole = append_snoc ps x qs in
    let fit' = subst Fit (sym whole) fit in
    let room' = subst (λ l. emitted_of l ≤ length out) (sym whole) room in
    let within : emitted_of (ps then x) ≤ length out = omega (arith, total_bits-append (ps then x) qs, room') in
    let grows : emitted_of ps ≤ emitted_of (ps then x) = omega (arith, bits_then ps x) in
    ap (after ps out (run_from (qs ++ rest))) (write_more ps x out (fit_append (ps then x) qs fit').0 narrow.0 within)
    ∙ ap₂ (λ k l. run_from (qs ++ rest) (held_of (ps then x)) k l) (omega arith) (part_then ps x out)
    ∙ run_more qs (ps then x) rest out fit' narrow.1 room'
    ∙ ap (λ l. run_from rest (held_of l) (emitted_of l) (so_far l out)) whole

from_fresh : (ps : List Piece) (out : List ℕ) → pack_of ps out ≡ run_from ps (held_of []) (emitted_of []) (so_far [] out)
unfolding pack_of total_bits bytes_of
from_fresh ps out = ap (λ p. run_from ps p 0 out) (sym held_nil)

-- Writing values that fit and flushing leaves exactly the stream's bytes; bytes after it stay.
pub pack_all : (ps : List Piece) (out : List ℕ) → Fit ps → Narrow ps → bytes_for (total_bits ps) ≤ length out
    → pack_of ps out ≡ outcome (emitting fresh (bytes_for (total_bits ps))) (packed ps out)
unfolding run_from
pack_all ps out fit narrow room =
    from_fresh ps out
    ∙ ap (λ l. run_from l (held_of []) (emitted_of []) (so_far [] out)) (sym (append-nil ps))
    ∙ run_more ps [] [] out fit narrow (omega arith)
    ∙ ap (after ps out (λ p n l. outcome (emitting p n) l)) (flush_all ps out fit room)
    ∙ ap₂ (λ k l. outcome (emitting fresh k) l) (omega arith) (part_packed ps out fit)

-- Where room is short, the refusal comes at the first write that has to emit without room, here x. What the values before it completed
-- stands in the output.
pub pack_stuck : (ps : List Piece) (x : Piece) (rest : List Piece) (out : List ℕ) → Fit (ps ++ x ∷ rest) → Narrow (ps ++ x ∷ rest)
    → emitted_of ps ≤ length out → length out < emitted_of (ps then x) → pack_of (ps ++ x ∷ rest) out ≡ refused NoRoom (so_far ps out)
unfolding run_from
pack_stuck ps x rest out fit narrow before short =
    let fits = fit_append ps (x ∷ rest) fit in
    let narrows = narrow_append ps (x ∷ rest) narrow in
    from_fresh (ps ++ x ∷ rest) out
    ∙ run_more ps [] (x ∷ rest) out fits.0 narrows.0 before
    ∙ ap (after ps out (run_from rest)) (write_stuck ps x out (fit_then ps x fits.0 fits.1.0) narrows.1.0 before short)
    ∙ stopped ps out (run_from rest)

-- Or at the flush, where every write had room.
pub flush_short : (ps : List Piece) (out : List ℕ) → Fit ps → Narrow ps → emitted_of ps ≤ length out → length out < bytes_for (total_bits ps)
    → pack_of ps out ≡ refused NoRoom (so_far ps out)
unfolding run_from
flush_short ps out fit narrow before short =
    from_fresh ps out
    ∙ ap (λ l. run_from l (held_of []) (emitted_of []) (so_far [] out)) (sym (append-nil ps))
    ∙ run_more ps [] [] out fit narrow before
    ∙ ap (after ps out (λ p n l. outcome (emitting p n) l)) (flush_stuck ps out fit before short)
    ∙ stopped ps out (λ p n l. outcome (emitting p n) l)
