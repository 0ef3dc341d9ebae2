-- A run of the packer leaves the stream's bytes (`pack_all`), from which the bit rule reads the list back (`read_back`). A stretch of the
-- list is a stretch of what is read, and no check of an unpacker of a legal width refuses what lies in the stream.
use Rattle.std.specs.Prelude.{Ok}
use Rattle.refusal.specs.Done.{done}
use mathlib.Core.Path.{◌≡◌, refl, sym, ap, ap₂, ◌∙◌, subst}
use mathlib.Core.Logic.{⊎_elim}
use mathlib.Core.Bool.{true}
use mathlib.Core.List.{List, [], ◌∷◌, ◌++◌}
use Prim.Native.Nat.{ℕ, zero, suc, ◌+◌, ◌-◌, ◌*◌, ◌≤◌, ◌<◌}
use native.Mathlib.Nat.{zero-add, mul-le-mul_right}
use native.Mathlib.Omega.{arith}
use lib.Dec.{eqb-suc-zero}
use lib.ListN.{length, get_or, take, drop, length-append}
use lib.Seq.{take_at, drop_at, take_all}
use borrow.Author.Tests.{le-leb, le-ltb, lt-leb, eq-eqb}
use Rattle.bit_rule.specs.Bytes.{bytes_for}
use Rattle.bit_rule.specs.Width.{legal_width}
use Rattle.bit_rule.specs.Stream.{total_bits, Fit, of_width, stream_bytes}
use Rattle.bit_rule.specs.Place.{values_from}
use Rattle.bit_rule.specs.Search.{matching_ids, at_start}
use Rattle.bit_rule.proofs.Width.{legal_le, le_or_lt}
use Rattle.bit_rule.proofs.Stream.{total_bits-of_width, length-stream_bytes}
use Rattle.bit_rule.proofs.Place.{read_back, read_column, value_at-append, value_at-lt, values_from-add, length-values_from, column_of_read}
use Rattle.bitpacker.specs.Packer.{outcome, fresh, emitting}
use Rattle.bitpacker.specs.Run.{pack_of}
use Rattle.bitpacker.proofs.Run.{Narrow, pack_all}
use Rattle.bitunpacker.specs.Unpacker.{unpacker_of, mask_of, get_of, range, get_range_of, Search, search, ids_of, search_of}
use Rattle.promises.specs.Reply.{written_answer, number_reply, filled_answer, found_answer}
use Rattle.promises.specs.Column.{stretch, ReadsAs, PackedAndRead, ReadAndPacked}

-- a search that writes these ids
found_ids : List ℕ → List ℕ → Search
found_ids ids positions = search (Ok (length ids)) (at_start ids positions)

module _ (w : ℕ) (vs rest : List ℕ) (legal : legal_width w ≡ true) (fit : Fit (of_width w vs)) where
  -- the bytes that are read: the stream, and whatever follows it
  bytes : List ℕ
  bytes = stream_bytes (of_width w vs) ++ rest

  -- the list's values lie in the stream, and so in the bytes
  in_stream : (n : ℕ) → n ≤ length vs → n * w ≤ 8 * length (stream_bytes (of_width w vs))
  in_stream n few =
      let whole : n * w ≤ length vs * w = mul-le-mul_right w few in
      omega (arith, length-stream_bytes (of_width w vs), total_bits-of_width w vs)

  inside : (n : ℕ) → n ≤ length vs → n * w ≤ 8 * length bytes
  unfolding bytes
  inside n few = omega (arith, in_stream n few, length-append (stream_bytes (of_width w vs)) rest)

  -- a stretch of what is read is that stretch of the list
  stretch_read : (start n : ℕ) → start + n ≤ length vs → values_from w start n bytes ≡ stretch start n vs
  unfolding bytes
  stretch_read start n few =
      let m = length vs - (start + n) in
      let before = values_from w 0 start bytes in
      let middle = values_from w (0 + start) n bytes in
      let after = values_from w (0 + start + n) m bytes in
      let count : length vs ≡ start + (n + m) = omega arith in
      let whole : vs ≡ before ++ (middle ++ after) =
      sym (read_back w vs rest fit)
      ∙ ap (λ k. values_from w 0 k bytes) count
      ∙ values_from-add w 0 start (n + m) bytes
      ∙ ap (λ l. before ++ l) (values_from-add w (0 + start) n m bytes) in
      sym
      (ap (stretch start n) whole
      ∙ ap (take n) (drop_at before (middle ++ after) start (length-values_from w 0 start bytes))
      ∙ take_at middle after n (length-values_from w (0 + start) n bytes)
      ∙ ap (λ k. values_from w k n bytes) (zero-add start))

  one : (i : ℕ) → i < length vs → get_of (unpacker_of w) i bytes ≡ Ok (get_or vs i 0)
  unfolding get_of bytes
  one i h =
      rw (legal, eq-eqb (mask_of w) (mask_of w) refl, le-leb ((i + 1) * w) (8 * length bytes) (inside (i + 1) (omega arith)))
      (ap Ok (value_at-append (stream_bytes (of_width w vs)) rest w i (in_stream (i + 1) (omega arith)) ∙ read_column w vs i fit h))

  some_values : (start : ℕ) (out : List ℕ) → start + length out ≤ length vs
      → get_range_of (unpacker_of w) start bytes out ≡ range done (stretch start (length out) vs)
  unfolding get_range_of
  some_values start [] few = rw (legal, eq-eqb (mask_of w) (mask_of w) refl)
  some_values start (x ∷ out) few =
      rw
      (legal, eq-eqb (mask_of w) (mask_of w) refl, eqb-suc-zero (length out), le-leb ((start + suc (length out)) * w) (8 * length bytes) (inside (start + suc (length out)) few))
      (ap (range done) (stretch_read start (suc (length out)) few))

  all_values : (out : List ℕ) → length out ≡ length vs → get_range_of (unpacker_of w) 0 bytes out ≡ range done vs
  all_values out same =
      some_values 0 out (omega arith) ∙ ap (range done) (take_all (length out) vs (omega arith))

  some_ids : (lo hi start end : ℕ) (positions : List ℕ) → end ≤ length vs → end - start ≤ length positions
      → search_of (unpacker_of w) lo hi start end bytes positions ≡ found_ids (matching_ids lo hi start (stretch start (end - start) vs)) positions
  unfolding search_of ids_of matching_ids found_ids
  some_ids lo hi start end positions few room = ⊎_elim none some (le_or_lt end start)
    where
      none : end ≤ start → search_of (unpacker_of w) lo hi start end bytes positions ≡ found_ids (matching_ids lo hi start (stretch start (end - start) vs)) positions
      none empty =
          let no-ids : 0 ≡ end - start = omega arith in
          rw (legal, eq-eqb (mask_of w) (mask_of w) refl, le-leb end start empty)
          (ap (λ n. found_ids (matching_ids lo hi start (stretch start n vs)) positions) no-ids)

      some : start < end → search_of (unpacker_of w) lo hi start end bytes positions ≡ found_ids (matching_ids lo hi start (stretch start (end - start) vs)) positions
      some more =
          rw
          (legal, eq-eqb (mask_of w) (mask_of w) refl, lt-leb end start more, le-leb (end * w) (8 * length bytes) (inside end few), le-ltb (length positions) (end - start) room)
          (ap (λ l. found_ids (matching_ids lo hi start l) positions) (stretch_read start (end - start) (omega arith)))

  all_ids : (lo hi : ℕ) (positions : List ℕ) → length vs ≤ length positions
      → search_of (unpacker_of w) lo hi 0 (length vs) bytes positions ≡ found_ids (matching_ids lo hi 0 vs) positions
  all_ids lo hi positions room =
      some_ids lo hi 0 (length vs) positions (omega arith) (omega arith)
      ∙ ap (λ l. found_ids (matching_ids lo hi 0 l) positions) (take_all (length vs - 0) vs (omega arith))

  -- A stream is read as the list that was packed, whatever bytes follow it.
  pub stream_reads : ReadsAs w vs (stream_bytes (of_width w vs) ++ rest)
  unfolding bytes found_ids
  stream_reads =
      record {
        one = λ i h. ap number_reply (one i h);
        some_values = λ start out few. ap filled_answer (some_values start out few);
        all_values = λ out same. ap filled_answer (all_values out same);
        some_ids = λ lo hi start end positions few room. ap found_answer (some_ids lo hi start end positions few room);
        all_ids = λ lo hi positions room. ap found_answer (all_ids lo hi positions room);
      }

-- the packer takes every legal width
narrow : (w : ℕ) (vs : List ℕ) → w ≤ 64 → Narrow (of_width w vs)
narrow w [] small = tt
narrow w (v ∷ vs) small = (small, narrow w vs small)

pub packed_and_read : PackedAndRead
packed_and_read w vs output legal fit room =
    let ps = of_width w vs in
    let bits : total_bits ps ≡ length vs * w = total_bits-of_width w vs in
    let whole : pack_of ps output ≡ outcome (emitting fresh (bytes_for (total_bits ps))) (stream_bytes ps ++ drop (bytes_for (total_bits ps)) output) =
    pack_all ps output fit (narrow w vs (legal_le w legal)) (omega arith) in
    record {
      packed =
          ap written_answer
          (whole
          ∙ ap₂ (λ n k. outcome (emitting fresh n) (stream_bytes ps ++ drop k output)) (ap bytes_for bits) (sym (length-stream_bytes ps)));
      read = subst (ReadsAs w vs) (ap (λ o. o.output) (sym whole)) (stream_reads w vs (drop (bytes_for (total_bits ps)) output) legal fit);
    }

-- ---- and the other way round

-- values that are read fit the width at which they are read
read_fits : (w i n : ℕ) (bytes : List ℕ) → Fit (of_width w (values_from w i n bytes))
unfolding values_from
read_fits w i zero bytes = tt
read_fits w i (suc n) bytes = (value_at-lt w i bytes, read_fits w (i + 1) n bytes)

module _ (w : ℕ) (bytes : List ℕ) (legal : legal_width w ≡ true) where
  filled : (out : List ℕ) → length bytes ≡ bytes_for (length out * w) → (get_range_of (unpacker_of w) 0 bytes out).output ≡ values_from w 0 (length out) bytes
  unfolding get_range_of values_from
  filled [] size = rw (legal, eq-eqb (mask_of w) (mask_of w) refl)
  filled (x ∷ out) size =
      let n = suc (length out) in
      let same : (0 + n) * w ≡ n * w = ap (λ k. k * w) (zero-add n) in
      rw (legal, eq-eqb (mask_of w) (mask_of w) refl, eqb-suc-zero (length out), le-leb ((0 + n) * w) (8 * length bytes) (omega arith))

pub read_and_packed : ReadAndPacked
read_and_packed w bytes out output legal are-bytes size spare room =
    let n = length out in
    let vs = values_from w 0 n bytes in
    let ps = of_width w vs in
    let taken : bytes_for (total_bits ps) ≡ length bytes =
    ap bytes_for (total_bits-of_width w vs ∙ ap (λ k. k * w) (length-values_from w 0 n bytes)) ∙ sym size in
    ap written_answer
    (ap (λ l. pack_of (of_width w l) output) (filled w bytes legal out size)
    ∙ pack_all ps output (read_fits w 0 n bytes) (narrow w vs (legal_le w legal)) (omega arith)
    ∙ ap₂ (λ k l. outcome (emitting fresh k) (l ++ drop k output)) taken (column_of_read w n bytes are-bytes size spare))
