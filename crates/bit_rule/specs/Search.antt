-- Document 01, "The bit rule": "A search takes an inclusive interval lo..hi and ids from start to before end, and writes the ids whose value
-- lies in the interval, ascending, at the start of the positions; places past the count stay as they were. lo > hi matches nothing."
use Rattle.std.specs.Prelude.{ℕ, ◌+◌, Bool, ◌&&◌, cond, List, [], ◌∷◌, ◌++◌, leb, length, take, drop}

abbrev pub lies_between : ℕ → ℕ → ℕ → Bool
lies_between lo hi v = leb lo v && leb v hi

-- The ids, counted from `id` on, of those of some values that lie in lo..hi.
unfoldable pub matching_ids : ℕ → ℕ → ℕ → List ℕ → List ℕ
matching_ids lo hi id [] = []
matching_ids lo hi id (v ∷ vs) =
    cond (lies_between lo hi v) (id ∷ matching_ids lo hi (id + 1) vs) (matching_ids lo hi (id + 1) vs)

-- A list at the start of another; the places past it stay.
abbrev pub at_start : List ℕ → List ℕ → List ℕ
at_start ids positions = ids ++ drop (length ids) positions

-- A list at a place of another; everything else stays.
abbrev pub pasted_at : ℕ → List ℕ → List ℕ → List ℕ
pasted_at at ids positions = take at positions ++ (ids ++ drop (at + length ids) positions)
