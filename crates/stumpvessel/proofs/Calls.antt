-- What the three calls come to: a value's eight bytes, a read by what `new` and `get` answer, and a list past its checks.
use Rattle.std.specs.Prelude.{Ok, Err, Result}
use Rattle.std.specs.Int.{to_le_bytes, w64}
use Rattle.std.specs.Simd.{first_chunks}
use mathlib.Core.Path.{◌≡◌, refl, sym, ap, ap₂, ◌∙◌}
use mathlib.Core.Logic.{⊎_elim}
use mathlib.Core.Bool.{Bool, true, false, not, cond}
use mathlib.Core.List.{List, ◌++◌}
use Prim.Native.Nat.{ℕ, ◌+◌, ◌*◌, ◌/◌, ◌%◌, ◌^◌, ◌≤◌, ◌<◌}
use native.Mathlib.Omega.{arith}
use lib.Dec.{eqb}
use lib.ListN.{length, drop}
use borrow.Author.Tests.{le-ltb, lt-ltb, lt-leb, le-leb, eq-eqb}
use Rattle.bit_rule.specs.Bytes.{AreBytes, bytes_of, bytes_for}
use Rattle.bit_rule.specs.Stream.{of_width, stream_bytes}
use Rattle.bit_rule.specs.Place.{value_at, lies_in}
use Rattle.bit_rule.proofs.Bytes.{length-bytes_of, word_bytes}
use Rattle.bit_rule.proofs.Stream.{length-stream_bytes}
use Rattle.bit_rule.proofs.Width.{le_or_lt}
use Rattle.refusal.specs.declared.Refusal.{Refusal}
use Rattle.refusal.specs.declared.Refusal.TheVariants.{BadWidth, TooWide, OutOfData, NoRoom}
use Rattle.refusal.specs.Number.{number_of}
use Rattle.bitpacker.specs.declared.Written.{Written}
use Rattle.bitpacker.specs.Packer.{fresh, damaged_packer, written, write_of}
use Rattle.bitpacker.proofs.Run.{packed}
use Rattle.bitunpacker.specs.declared.BitUnpacker.{BitUnpacker}
use Rattle.bitunpacker.specs.Unpacker.{mask_of, new_of, get_of}
use Rattle.block.proofs.Reading.{new_says}
use Rattle.stumpvessel.specs.Host.{Answered, answered, refuses, words_of, any_too_wide, pack_list_of, put_of, read_of}
use Rattle.stumpvessel.proofs.Words.{numbers_of, length-numbers_of, chunks_are_words}

-- ---- a value's eight bytes

module _ (v : ℕ) (out : List ℕ) where
  pub put_short : length out < 8 → refuses NoRoom out ≡ put_of v out
  unfolding put_of
  put_short short = simp (lt-ltb (length out) 8 short)

  pub put_done : (word : List ℕ) → word ≡ to_le_bytes w64 v → 8 ≤ length out → answered 0 (word ++ drop 8 out) ≡ put_of v out
  unfolding put_of
  put_done word is room =
      simp (le-ltb (length out) 8 room)
      (ap₂ (λ l n. answered 0 (l ++ drop n out)) (is ∙ word_bytes v) (sym (length-bytes_of 8 v)))

-- ---- the same eight bytes, as a packer of 64 bits leaves them

abbrev number_in : Result Written Refusal → ℕ
number_in (Ok written) = 0
number_in (Err why) = number_of why

abbrev pub numbered : Result Written Refusal → List ℕ → Answered
numbered r out = answered (number_in r) out

-- a packer that holds nothing emits all of it at once
pub put_law : (v : ℕ) (out : List ℕ) → v < 2 ^ 64 → numbered (write_of fresh v 64 out).answer (write_of fresh v 64 out).output ≡ put_of v out
unfolding write_of written damaged_packer put_of
put_law v out word =
    let whole : 0 + v * 2 ^ 0 ≡ v = omega arith in
    simp (lt-leb (2 ^ 64) v word)
    (⊎_elim
    (λ room.
    simp (le-ltb (length out) 8 room)
    (ap (answered 0) (ap₂ (λ x n. bytes_of 8 x ++ drop n out) whole (sym (length-bytes_of 8 v)))))
    (λ short. simp (lt-ltb (length out) 8 short)) (le_or_lt 8 (length out)))

-- ---- a read

abbrev pub read : Result ℕ Refusal → List ℕ → Answered
read (Ok v) out = put_of v out
read (Err why) out = refuses why out

module _ (bytes : List ℕ) (w i : ℕ) (out : List ℕ) where
  pub read_made : (u : BitUnpacker) → Ok u ≡ new_of w → (got : Result ℕ Refusal) → got ≡ get_of u i bytes → read got out ≡ read_of bytes w i out
  unfolding get_of read_of
  read_made u made got is =
      let says = new_says w (Ok u) made in
      ap (λ r. read r out) (is ∙ ap (λ v. get_of v i bytes) says.1)
      ∙ simp (says.0, eq-eqb (mask_of w) (mask_of w) refl) (by_check (lies_in w i (length bytes)))
    where
      by_check : (inside : Bool)
          → read (cond (not inside) (Err OutOfData) (Ok (value_at w i bytes))) out
          ≡ cond (not inside) (refuses OutOfData out) (put_of (value_at w i bytes) out)
      by_check true = refl
      by_check false = refl

  pub read_not_made : (why : Refusal) → Err why ≡ new_of w → refuses why out ≡ read_of bytes w i out
  unfolding read_of
  read_not_made why not_made =
      let says = new_says w (Err why) not_made in
      simp says.0 (ap (λ r. refuses r out) says.1)

-- ---- a list, past each of its checks

module _ (list : List ℕ) (w : ℕ) (out : List ℕ) where
  pub pack_bad_width : 64 < w → refuses BadWidth out ≡ pack_list_of list w out
  unfolding pack_list_of
  pack_bad_width wide = simp (lt-leb w 64 wide)

  module _ (narrow : w ≤ 64) {rest : ℕ} (left : rest ≡ length list % 8) where
    pub pack_odd : eqb rest 0 ≡ false → refuses OutOfData out ≡ pack_list_of list w out
    unfolding pack_list_of
    pack_odd odd = simp (le-leb w 64 narrow, ap (λ n. eqb n 0) (sym left) ∙ odd)

    module _ (none_left : eqb rest 0 ≡ true) (bytes : AreBytes list) {chunks : List (List ℕ)} (taken : chunks ≡ first_chunks 8 (length list / 8) list) where
      even : eqb (length list % 8) 0 ≡ true
      even = ap (λ n. eqb n 0) (sym left) ∙ none_left

      words : numbers_of chunks ≡ words_of list
      words = ap numbers_of taken ∙ chunks_are_words list bytes

      pub pack_too_wide : any_too_wide w (numbers_of chunks) ≡ true → refuses TooWide out ≡ pack_list_of list w out
      unfolding pack_list_of
      pack_too_wide wide = simp (le-leb w 64 narrow, even, ap (any_too_wide w) (sym words) ∙ wide)

      module _ (none_wide : any_too_wide w (numbers_of chunks) ≡ false) {size : ℕ} (sized : size ≡ bytes_for (length chunks * w)) where
        fit : any_too_wide w (words_of list) ≡ false
        fit = ap (any_too_wide w) (sym words) ∙ none_wide

        needed : bytes_for (length (words_of list) * w) ≡ size
        needed = ap (λ n. bytes_for (n * w)) (ap length (sym words) ∙ length-numbers_of chunks) ∙ sym sized

        pub pack_no_room : length out < size → refuses NoRoom out ≡ pack_list_of list w out
        unfolding pack_list_of
        pack_no_room short =
            simp (le-leb w 64 narrow, even, fit, lt-ltb (length out) (bytes_for (length (words_of list) * w)) (omega (arith, needed)))

        pub pack_done : size ≤ length out → answered 0 (packed (of_width w (numbers_of chunks)) out) ≡ pack_list_of list w out
        unfolding pack_list_of
        pack_done room =
            ap (λ vs. answered 0 (packed (of_width w vs) out)) words
            ∙ simp (le-leb w 64 narrow, even, fit, le-ltb (length out) (bytes_for (length (words_of list) * w)) (omega (arith, needed)))
            (ap (λ n. answered 0 (stream_bytes (of_width w (words_of list)) ++ drop n out)) (sym (length-stream_bytes (of_width w (words_of list)))))
