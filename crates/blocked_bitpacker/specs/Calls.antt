-- What each call on a store answers, and what the store and both areas are then. Each has document 01's list of checks in its order:
-- "add: 8, 6, 5, 4. Flush of a store: 8, nothing waiting succeeds, 5, 4. Store get: 8 (store), 7, 8 (entry). Store range and search: 8
-- (store), empty succeeds, 7, then for search 4, then 8 over every touched entry before anything is written."
use Rattle.std.specs.Prelude.{ℕ, ◌+◌, ◌-◌, ◌*◌, ◌/◌, Bool, ◌||◌, ◌&&◌, cond, List, [], ◌∷◌, ◌++◌, leb, ltb, eqb, length, take, set, Ok, Err, Result}
use Rattle.bit_rule.specs.Search.{matching_ids, at_start, pasted_at}
use Rattle.refusal.specs.declared.Refusal.{Refusal}
use Rattle.refusal.specs.declared.Refusal.TheVariants.{NoRoom, EntriesFull, Closed, NoSuchIndex, Damaged}
use Rattle.refusal.specs.First.{check, first_that_holds}
use Rattle.refusal.specs.Done.{done}
use Rattle.bitunpacker.specs.Unpacker.{Range, range, Search, search, no_room}
use Rattle.blocked_bitpacker.specs.declared.BlockedBitpacker.{BlockedBitpacker}
use Rattle.blocked_bitpacker.specs.declared.Stored.{Stored}
use Rattle.block.specs.Block.{eight_zeros, words_per_entry, block_size, block_bytes, entry_words, damaged_entry}
use Rattle.blocked_bitpacker.specs.Store.{block_limit, none_waiting, store_of, fresh_store, is_closed, damaged_store, count_of, length_of_block, in_block, value_of, values_of, touched_damaged}

-- ---- calls that change the store

-- The answer with the store, and the two areas.
pub record Changed : Type 0 where
  pub stored : Stored
  pub bytes : List ℕ
  pub entries : List ℕ

abbrev pub changed : Stored → List ℕ → List ℕ → Changed
changed r bytes entries = record { stored = r; bytes = bytes; entries = entries }

abbrev pub answered : Result (Unit {0}) Refusal → BlockedBitpacker → Stored
answered done s = record { done = done; store = s }

-- "A refusal returns its number and nothing else; buffers .. and store stay as they were."
abbrev pub refused_with : Refusal → BlockedBitpacker → Stored
refused_with why s = answered (Err why) s

abbrev pub refused_call : Refusal → BlockedBitpacker → List ℕ → List ℕ → Changed
refused_call why s bytes entries = changed (refused_with why s) bytes entries

-- What making a store answers, and what the byte area then holds.
pub record Made : Type 0 where
  pub stored : Stored
  pub bytes : List ℕ

abbrev pub made : Stored → List ℕ → Made
made r bytes = record { stored = r; bytes = bytes }

-- "eight zero bytes at the start of the byte area"; refused 4 on fewer than 8 bytes, "and then the answer carries a fresh store".
unfoldable pub new_of : List ℕ → Made
new_of bytes =
    first_that_holds (check (ltb (length bytes) 8) (made (answered (Err NoRoom) fresh_store) bytes) ∷ [])
    (made (answered done fresh_store) (at_start eight_zeros bytes))

-- The values that wait.
abbrev pub waiting_values : BlockedBitpacker → List ℕ
waiting_values s = take s.waiting s.buffer

-- "EntriesFull: a seal needs a block past the limit, or 2*(blocks+1) > entry words"
abbrev pub entries_full : BlockedBitpacker → List ℕ → Bool
entries_full s entries = ltb block_limit (s.blocks + 1) || ltb (length entries) (words_per_entry * (s.blocks + 1))

-- "NoRoom: used + block bytes + 8 > byte area"
abbrev pub no_room_for_block : BlockedBitpacker → List ℕ → List ℕ → Bool
no_room_for_block s vs bytes = ltb (length bytes) (s.used + block_size vs + 8)

-- A block of vs is sealed at the used offset, eight zero bytes after it, and its entry behind the others; nothing waits any more. `last` is
-- the last length: 0 while the store stays open.
unfoldable pub sealed : BlockedBitpacker → List ℕ → ℕ → List ℕ → List ℕ → Changed
sealed s vs last bytes entries =
    changed
    (answered done (store_of none_waiting (s.used + block_size vs) (s.blocks + 1) 0 last))
    (pasted_at s.used (block_bytes vs ++ eight_zeros) bytes)
    (pasted_at (words_per_entry * s.blocks) (entry_words s.used vs) entries)

-- A seal is refused 5, then 4.
unfoldable pub seal_or_refuse : BlockedBitpacker → List ℕ → ℕ → List ℕ → List ℕ → Changed
seal_or_refuse s vs last bytes entries =
    first_that_holds
    (check (entries_full s entries) (refused_call EntriesFull s bytes entries)
    ∷ check (no_room_for_block s vs bytes) (refused_call NoRoom s bytes entries)
    ∷ [])
    (sealed s vs last bytes entries)

-- One more value waits.
abbrev pub waits : BlockedBitpacker → ℕ → BlockedBitpacker
waits s v = store_of (set s.buffer s.waiting v) s.used s.blocks (s.waiting + 1) s.last_length

-- "The 128th waiting value seals a block. Any other add changes one place and the counts."
unfoldable pub add_of : BlockedBitpacker → ℕ → List ℕ → List ℕ → Changed
add_of s v bytes entries =
    let seals = eqb s.waiting 127 in
    let vs = waiting_values s ++ v ∷ [] in
    first_that_holds
    (check (damaged_store s (length bytes) (length entries)) (refused_call Damaged s bytes entries)
    ∷ check (is_closed s) (refused_call Closed s bytes entries)
    ∷ check (seals && entries_full s entries) (refused_call EntriesFull s bytes entries)
    ∷ check (seals && no_room_for_block s vs bytes) (refused_call NoRoom s bytes entries)
    ∷ [])
    (cond seals (sealed s vs 0 bytes entries) (changed (answered done (waits s v)) bytes entries))

-- "A flush seals n = 1..127 waiting values the same way and closes the store. A flush with none waiting does nothing and closes nothing."
unfoldable pub flush_of : BlockedBitpacker → List ℕ → List ℕ → Changed
flush_of s bytes entries =
    first_that_holds
    (check (damaged_store s (length bytes) (length entries)) (refused_call Damaged s bytes entries)
    ∷ check (eqb s.waiting 0) (changed (answered done s) bytes entries)
    ∷ check (entries_full s entries) (refused_call EntriesFull s bytes entries)
    ∷ check (no_room_for_block s (waiting_values s) bytes) (refused_call NoRoom s bytes entries)
    ∷ [])
    (sealed s (waiting_values s) s.waiting bytes entries)

-- ---- calls that read

unfoldable pub counted_of : BlockedBitpacker → List ℕ → List ℕ → Result ℕ Refusal
counted_of s bytes entries =
    first_that_holds (check (damaged_store s (length bytes) (length entries)) (Err Damaged) ∷ []) (Ok (count_of s))

unfoldable pub get_of : BlockedBitpacker → ℕ → List ℕ → List ℕ → Result ℕ Refusal
get_of s i bytes entries =
    first_that_holds
    (check (damaged_store s (length bytes) (length entries)) (Err Damaged)
    ∷ check (leb (count_of s) i) (Err NoSuchIndex)
    ∷ check (in_block s i && damaged_entry s.used (length_of_block s (i / 128)) (i / 128) entries) (Err Damaged)
    ∷ [])
    (Ok (value_of s bytes entries i))

unfoldable pub get_range_of : BlockedBitpacker → ℕ → List ℕ → List ℕ → List ℕ → Range
get_range_of s start bytes entries out =
    first_that_holds
    (check (damaged_store s (length bytes) (length entries)) (range (Err Damaged) out)
    ∷ check (eqb (length out) 0) (range done out)
    ∷ check (ltb (count_of s) (start + length out)) (range (Err NoSuchIndex) out)
    ∷ check (touched_damaged s entries start (start + length out)) (range (Err Damaged) out)
    ∷ [])
    (range done (values_of s bytes entries start (length out)))

-- The ids from start to before end whose value lies in lo..hi, ascending.
unfoldable pub ids_of : BlockedBitpacker → ℕ → ℕ → ℕ → ℕ → List ℕ → List ℕ → List ℕ
ids_of s lo hi start end bytes entries = matching_ids lo hi start (values_of s bytes entries start (end - start))

unfoldable pub search_of : BlockedBitpacker → ℕ → ℕ → ℕ → ℕ → List ℕ → List ℕ → List ℕ → Search
search_of s lo hi start end bytes entries positions =
    let ids = ids_of s lo hi start end bytes entries in
    first_that_holds
    (check (damaged_store s (length bytes) (length entries)) (search (Err Damaged) positions)
    ∷ check (leb end start) (search (Ok 0) positions)
    ∷ check (ltb (count_of s) end) (search (Err NoSuchIndex) positions)
    ∷ check (no_room start end positions) (search (Err NoRoom) positions)
    ∷ check (touched_damaged s entries start end) (search (Err Damaged) positions)
    ∷ [])
    (search (Ok (length ids)) (at_start ids positions))
