-- Document 01: "Value i at width w is bits i*w to i*w+w-1 of the data." "A range read fills the output with values start, start+1, .. as
-- whole numbers, with no wrap at 2^32." "Order of checks: get: 1, 8, 3. Range: 1, 8, empty output succeeds, 3. Search: 1, 8, empty range
-- gives 0 ids, 3, 4." "A refusal returns its number and nothing else; buffers stay as they were."
use Rattle.std.specs.Prelude.{ℕ, ◌+◌, ◌-◌, ◌*◌, ◌^◌, ◌≡◌, Bool, true, not, List, [], ◌∷◌, leb, ltb, eqb, length, Ok, Err, Result}
use Rattle.refusal.specs.declared.Refusal.{Refusal}
use Rattle.bit_rule.specs.Width.{legal_width}
use Rattle.bit_rule.specs.Place.{value_at, lies_in, values_from}
use Rattle.bit_rule.specs.Search.{matching_ids, at_start}
use Rattle.refusal.specs.declared.Refusal.TheVariants.{BadWidth, OutOfData, NoRoom, Damaged}
use Rattle.refusal.specs.First.{check, first_that_holds}
use Rattle.refusal.specs.Done.{done}
use Rattle.bitunpacker.specs.declared.BitUnpacker.{BitUnpacker}

-- The mask of a width has its lowest w bits set.
abbrev pub mask_of : ℕ → ℕ
mask_of w = 2 ^ w - 1

abbrev pub unpacker_of : ℕ → BitUnpacker
unpacker_of w = record { num_bits = w; mask = mask_of w }

unfoldable pub new_of : ℕ → Result BitUnpacker Refusal
new_of w = first_that_holds (check (not (legal_width w)) (Err BadWidth) ∷ []) (Ok (unpacker_of w))

-- "unpacker or single read: 57..63 or above 64"
abbrev pub bad_width : BitUnpacker → Bool
bad_width u = not (legal_width u.num_bits)

-- "Damaged: unpacker whose mask isn't its width's"
abbrev pub damaged_mask : BitUnpacker → Bool
damaged_mask u = not (eqb u.mask (mask_of u.num_bits))

-- An unpacker that neither of these refuses.
pub record Sound (u : BitUnpacker) : Type 0 where
  pub legal : legal_width u.num_bits ≡ true
  pub masked : u.mask ≡ mask_of u.num_bits

-- "value, nonempty range or nonempty id range reaches past the data": n values from index 0 do
abbrev pub out_of_data : BitUnpacker → ℕ → List ℕ → Bool
out_of_data u n bytes = not (leb (n * u.num_bits) (8 * length bytes))

unfoldable pub get_of : BitUnpacker → ℕ → List ℕ → Result ℕ Refusal
get_of u i bytes =
    first_that_holds
    (check (bad_width u) (Err BadWidth)
    ∷ check (damaged_mask u) (Err Damaged)
    ∷ check (not (lies_in u.num_bits i (length bytes))) (Err OutOfData)
    ∷ [])
    (Ok (value_at u.num_bits i bytes))

-- What a range read answers, and what the lent output then holds.
pub record Range : Type 0 where
  pub answer : Result (Unit {0}) Refusal
  pub output : List ℕ

abbrev pub range : Result (Unit {0}) Refusal → List ℕ → Range
range r out = record { answer = r; output = out }

unfoldable pub get_range_of : BitUnpacker → ℕ → List ℕ → List ℕ → Range
get_range_of u start bytes out =
    first_that_holds
    (check (bad_width u) (range (Err BadWidth) out)
    ∷ check (damaged_mask u) (range (Err Damaged) out)
    ∷ check (eqb (length out) 0) (range done out)
    ∷ check (out_of_data u (start + length out) bytes) (range (Err OutOfData) out)
    ∷ [])
    (range done (values_from u.num_bits start (length out) bytes))

-- What a search answers, and what the lent positions then hold.
pub record Search : Type 0 where
  pub answer : Result ℕ Refusal
  pub positions : List ℕ

abbrev pub search : Result ℕ Refusal → List ℕ → Search
search r positions = record { answer = r; positions = positions }

-- The ids from start to before end whose value lies in lo..hi, ascending.
unfoldable pub ids_of : ℕ → ℕ → ℕ → ℕ → ℕ → List ℕ → List ℕ
ids_of w lo hi start end bytes = matching_ids lo hi start (values_from w start (end - start) bytes)

-- How room for positions is judged: "positions shorter than the number of ids in the range".
abbrev pub no_room : ℕ → ℕ → List ℕ → Bool
no_room start end positions = ltb (length positions) (end - start)

unfoldable pub search_of : BitUnpacker → ℕ → ℕ → ℕ → ℕ → List ℕ → List ℕ → Search
search_of u lo hi start end bytes positions =
    let ids = ids_of u.num_bits lo hi start end bytes in
    first_that_holds
    (check (bad_width u) (search (Err BadWidth) positions)
    ∷ check (damaged_mask u) (search (Err Damaged) positions)
    ∷ check (leb end start) (search (Ok 0) positions)
    ∷ check (out_of_data u end bytes) (search (Err OutOfData) positions)
    ∷ check (no_room start end positions) (search (Err NoRoom) positions)
    ∷ [])
    (search (Ok (length ids)) (at_start ids positions))
