-- The promises over whole histories. In each of them `bytes` and `entries` are any two areas, whatever they hold, on which a store can be
-- made, and `calls`, `earlier` and `later` are any calls on it with any arguments. The proofs have the same names, written small:
-- `nobody_is_missing` proves `NobodyIsMissing`.
use Rattle.std.specs.Prelude.{ℕ, suc, ◌+◌, ◌-◌, ◌*◌, ◌%◌, ◌≤◌, ◌<◌, ◌≡◌, Bool, true, false, ◌||◌, ◌&&◌, cond, List, [], ◌∷◌, ◌++◌, leb, ltb, eqb, length, get_or, take}
use Rattle.bit_rule.specs.Search.{lies_between, at_start}
use Rattle.block.specs.Block.{eight_zeros, words_per_entry}
use Rattle.blocked_bitpacker.specs.Store.{damaged_store}
use Rattle.promises.specs.Reply.{Reply, values, refusal, Answer, answer}
use Rattle.promises.specs.Column.{stretch}
use Rattle.promises.specs.Defined.{Held, blocks_by, used_by, bytes_by, entries_by, store_by}
use Rattle.promises.specs.Histories.{Call, add, count, get, range, search, lent_to, gives, outcome_of, reply_of, begun, after, answers, accepted, closed_by, History}
use Rattle.promises.specs.Paper.{paper_answer}

-- ---- 1. What was added is what is read

-- Of a store, and all values that it accepted: their number is the count, and no index past them is read.
pub record Counted (vs : List ℕ) (h : Held) : Type 0 where
  pub number : reply_of count h ≡ values (length vs ∷ [])
  pub past : (i : ℕ) → length vs ≤ i → reply_of (get i) h ≡ refusal 7

-- Of a store, and some first values that it accepted: each is read at its index, and each stretch of them by a range read.
pub record Read (vs : List ℕ) (h : Held) : Type 0 where
  pub one : (i : ℕ) → i < length vs → reply_of (get i) h ≡ values (get_or vs i 0 ∷ [])
  pub stretches : (start : ℕ) (out : List ℕ) → start + length out ≤ length vs
      → (outcome_of (range start out) h).answer ≡ answer (values []) (stretch start (length out) vs)

-- After any calls the store has exactly the accepted values; and those that were accepted earlier are read as they were, whatever came later.
abbrev pub WhatWasAddedIsWhatIsRead : Type 0
WhatWasAddedIsWhatIsRead =
    (bytes entries : List ℕ) (earlier later : List Call) → History bytes (earlier ++ later)
    → Counted (accepted (earlier ++ later) (begun bytes entries)) (after (earlier ++ later) (begun bytes entries))
    × Read (accepted earlier (begun bytes entries)) (after (earlier ++ later) (begun bytes entries))

-- ---- 2. Nobody is missing

-- Whether a number is one of a list, and whether each number of a list is below the next.
unfoldable pub is_one_of : ℕ → List ℕ → Bool
is_one_of id [] = false
is_one_of id (x ∷ xs) = eqb id x || is_one_of id xs

unfoldable pub ascending : List ℕ → Bool
ascending [] = true
ascending (x ∷ []) = true
ascending (x ∷ y ∷ ys) = ltb x y && ascending (y ∷ ys)

-- What a search of a store finds, of values that the store accepted.
pub record Found (vs : List ℕ) (lo hi start end : ℕ) (positions : List ℕ) (h : Held) : Type 0 where
  pub ids : List ℕ
  -- An id is listed exactly where it lies in the range and its accepted value in the interval: nobody is missing, and nobody is there who
  -- should not be.
  pub exactly : (id : ℕ) → is_one_of id ids ≡ (leb start id && ltb id end && lies_between lo hi (get_or vs id 0))
  pub in_order : ascending ids ≡ true
  -- So many are answered, they stand at the start of the positions, and places past them stay as they were.
  pub answered : (outcome_of (search lo hi start end positions) h).answer ≡ answer (values (length ids ∷ [])) (at_start ids positions)

-- A range of ids that were accepted at some moment, and enough positions: then and at every later moment the search finds exactly those whose
-- accepted value lies in the interval.
abbrev pub NobodyIsMissing : Type 0
NobodyIsMissing =
    (bytes entries : List ℕ) (earlier later : List Call) → History bytes (earlier ++ later)
    → (lo hi start end : ℕ) (positions : List ℕ)
    → end ≤ length (accepted earlier (begun bytes entries)) → end - start ≤ length positions
    → Found (accepted earlier (begun bytes entries)) lo hi start end positions (after (earlier ++ later) (begun bytes entries))

-- What an ascending list has as members leaves no choice: so no two lists of ids could both be right.
abbrev pub OnlyOneList : Type 0
OnlyOneList =
    (ids others : List ℕ) → ascending ids ≡ true → ascending others ≡ true → ((id : ℕ) → is_one_of id ids ≡ is_one_of id others) → ids ≡ others

-- ---- 3. Room changes nothing

-- "A refusal for room is one by 4 or 5."
abbrev pub for_room : Reply → Bool
for_room (values vs) = false
for_room (refusal k) = eqb k 4 || eqb k 5

-- How many answers come before the first that refuses for room: all, where none does.
unfoldable pub before_room : List Answer → ℕ
before_room [] = 0
before_room (a ∷ rest) = cond (for_room a.reply) 0 (suc (before_room rest))

-- The same store, the same packed bytes and the same entries, whatever lies past them.
pub record SameContents (h k : Held) : Type 0 where
  pub store : h.store ≡ k.store
  pub packed : take h.store.used h.bytes ≡ take k.store.used k.bytes
  pub entries : take (words_per_entry * h.store.blocks) h.entries ≡ take (words_per_entry * k.store.blocks) k.entries

-- The same calls over areas of which the second's are each at least as long: up to and not including the first call that the shorter run
-- refuses for room, the answers are the same, and so is what the stores hold.
abbrev pub RoomChangesNothing : Type 0
RoomChangesNothing =
    (bytes entries longerBytes longerEntries : List ℕ) (calls : List Call) → History bytes calls
    → length bytes ≤ length longerBytes → length entries ≤ length longerEntries
    → let n = before_room (answers calls (begun bytes entries)) in
    (take n (answers calls (begun bytes entries)) ≡ take n (answers calls (begun longerBytes longerEntries)))
    × SameContents (after (take n calls) (begun bytes entries)) (after (take n calls) (begun longerBytes longerEntries))

-- ---- 4. The books balance

-- Of values, and whether they are closed, and of the areas as they came.
pub record Balanced (vs : List ℕ) (closed : Bool) (bytes entries : List ℕ) (h : Held) : Type 0 where
  -- "Used bytes equal at every moment the sum of ceil(n*w/8) over the blocks that the accepted values define."
  pub used : h.store.used ≡ used_by vs (blocks_by vs closed)
  -- The places are the values that wait and zeros, and every count is theirs.
  pub store : h.store ≡ store_by vs closed
  -- The blocks' packed differences, eight zeros after the last, and from there on the bytes as they came.
  pub bytes_are : h.bytes ≡ at_start (bytes_by vs (blocks_by vs closed) ++ eight_zeros) bytes
  -- The blocks' entries, and from there on the words as they came.
  pub entries_are : h.entries ≡ at_start (entries_by vs (blocks_by vs closed)) entries
  pub byte_area : length h.bytes ≡ length bytes
  pub entry_area : length h.entries ≡ length entries
  pub not_damaged : damaged_store h.store (length h.bytes) (length h.entries) ≡ false

abbrev pub TheBooksBalance : Type 0
TheBooksBalance =
    (bytes entries : List ℕ) (calls : List Call) → History bytes calls
    → Balanced (accepted calls (begun bytes entries)) (closed_by calls (begun bytes entries)) bytes entries (after calls (begun bytes entries))

-- ---- 5. A refusal changes nothing

-- Of any store in any areas, damaged or not: what refuses leaves the store, both areas and what was lent as they were.
abbrev pub ARefusalChangesNothing : Type 0
ARefusalChangesNothing =
    (c : Call) (h : Held) (number : ℕ) → reply_of c h ≡ refusal number → outcome_of c h ≡ gives (refusal number) (lent_to c) h

-- ---- 6. No history but the honest one

-- After any calls, every call answers what the paper says of the accepted values. So an add is refused exactly when the paper says, and a
-- store closes by a flush alone.
abbrev pub EveryAnswerIsThePapers : Type 0
EveryAnswerIsThePapers =
    (bytes entries : List ℕ) (calls : List Call) (c : Call) → History bytes (calls ++ c ∷ [])
    → (outcome_of c (after calls (begun bytes entries))).answer
    ≡ paper_answer c (accepted calls (begun bytes entries)) (closed_by calls (begun bytes entries)) (length bytes) (length entries)

-- An add that is not the 128th is accepted by an open store, whatever the room.
abbrev pub AnOpenStoreAccepts : Type 0
AnOpenStoreAccepts =
    (bytes entries : List ℕ) (calls : List Call) (v : ℕ) → History bytes (calls ++ add v ∷ [])
    → closed_by calls (begun bytes entries) ≡ false → length (accepted calls (begun bytes entries)) % 128 < 127
    → reply_of (add v) (after calls (begun bytes entries)) ≡ values []
