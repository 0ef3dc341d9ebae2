-- Document 01: "From C, list (little-endian 8-byte words) at one width: 1, 3, 2, 4, output then holds the stream. Single read: 1, 3, 4,
-- output's first eight bytes hold the value, least byte first. Both answer 0 for success and leave the output's later bytes unchanged. The
-- width call refuses nothing and answers the width."
use Rattle.std.specs.Prelude.{ℕ, ◌*◌, ◌/◌, ◌%◌, ◌^◌, Bool, false, not, ◌||◌, List, [], ◌∷◌, leb, ltb, eqb, length, Ok, Err, Result}
use Rattle.bit_rule.specs.Bytes.{bytes_of, bytes_for}
use Rattle.bit_rule.specs.Stream.{of_width, stream_bytes}
use Rattle.bit_rule.specs.Place.{value_at, lies_in, values_from}
use Rattle.bit_rule.specs.Search.{at_start}
use Rattle.bit_rule.specs.Width.{legal_width, packer_width}
use Rattle.refusal.specs.declared.Refusal.{Refusal}
use Rattle.refusal.specs.declared.Refusal.TheVariants.{BadWidth, TooWide, OutOfData, NoRoom}
use Rattle.refusal.specs.Number.{number_of}
use Rattle.refusal.specs.First.{check, first_that_holds}

-- The number that is answered, and what the output then holds.
pub record Answered : Type 0 where
  pub number : ℕ
  pub output : List ℕ

abbrev pub answered : ℕ → List ℕ → Answered
answered number output = record { number = number; output = output }

-- "Both answer 0 for success", and for a refusal its number.
abbrev pub status_of : Result (Unit {0}) Refusal → ℕ
status_of (Ok _) = 0
status_of (Err why) = number_of why

-- "A refusal returns its number and nothing else"; the output stays as it was.
abbrev pub refuses : Refusal → List ℕ → Answered
refuses why output = answered (number_of why) output

-- "little-endian 8-byte words": the values of 64 bits that lie in the list.
unfoldable pub words_of : List ℕ → List ℕ
words_of list = values_from 64 0 (length list / 8) list

-- "TooWide: value >= 2^width", for one of the words
unfoldable pub any_too_wide : ℕ → List ℕ → Bool
any_too_wide w [] = false
any_too_wide w (v ∷ vs) = leb (2 ^ w) v || any_too_wide w vs

unfoldable pub pack_list_of : List ℕ → ℕ → List ℕ → Answered
pack_list_of list w output =
    let words = words_of list in
    first_that_holds
    (check (not (packer_width w)) (refuses BadWidth output)
    ∷ check (not (eqb (length list % 8) 0)) (refuses OutOfData output)
    ∷ check (any_too_wide w words) (refuses TooWide output)
    ∷ check (ltb (length output) (bytes_for (length words * w))) (refuses NoRoom output)
    ∷ [])
    (answered 0 (at_start (stream_bytes (of_width w words)) output))

-- A value in the first eight bytes, least byte first.
unfoldable pub put_of : ℕ → List ℕ → Answered
put_of v output =
    first_that_holds (check (ltb (length output) 8) (refuses NoRoom output) ∷ []) (answered 0 (at_start (bytes_of 8 v) output))

unfoldable pub read_of : List ℕ → ℕ → ℕ → List ℕ → Answered
read_of bytes w i output =
    first_that_holds
    (check (not (legal_width w)) (refuses BadWidth output)
    ∷ check (not (lies_in w i (length bytes))) (refuses OutOfData output)
    ∷ [])
    (put_of (value_at w i bytes) output)
