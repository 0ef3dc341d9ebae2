-- What document 01 says each call on a store answers, told by the accepted values, whether the store is closed, and how long the areas are,
-- and by nothing else. "add: 8, 6, 5, 4. Flush of a store: 8, nothing waiting succeeds, 5, 4. Store get: 8 (store), 7, 8 (entry). Store range
-- and search: 8 (store), empty succeeds, 7, then for search 4, then 8." No history damages a store, so 8 is never answered.
use Rattle.std.specs.Prelude.{ℕ, ◌+◌, ◌-◌, ◌*◌, ◌/◌, ◌%◌, Bool, ◌||◌, ◌&&◌, List, [], ◌∷◌, ◌++◌, leb, ltb, eqb, length, get_or}
use Rattle.bit_rule.specs.Search.{matching_ids}
use Rattle.refusal.specs.First.{check, first_that_holds}
use Rattle.block.specs.Block.{block_size, words_per_entry}
use Rattle.blocked_bitpacker.specs.Store.{block_limit}
use Rattle.promises.specs.Reply.{Reply, values, refusal, Answer, answer, finds_ids}
use Rattle.promises.specs.Column.{stretch}
use Rattle.promises.specs.Defined.{block_at, used_by}
use Rattle.promises.specs.Histories.{Call, add, flush, count, get, range, search}

-- "EntriesFull: a seal needs a block past the limit, or 2*(blocks+1) > entry words", where there are n blocks
abbrev pub no_entry : ℕ → ℕ → Bool
no_entry n entryArea = ltb block_limit (n + 1) || ltb entryArea (words_per_entry * (n + 1))

-- "NoRoom: used + block bytes + 8 > byte area", where the next block is the n-th of these values
abbrev pub no_space : List ℕ → ℕ → ℕ → Bool
no_space vs n byteArea = ltb byteArea (used_by vs n + block_size (block_at vs n) + 8)

-- An add to a closed store is refused. The 128th of a block needs an entry, and room for the block with it. Any other add is accepted.
unfoldable pub add_reply : List ℕ → Bool → ℕ → ℕ → ℕ → Reply
add_reply vs closed byteArea entryArea v =
    let n = length vs / 128 in
    let seals = eqb (length vs % 128) 127 in
    first_that_holds
    (check closed (refusal 6)
    ∷ check (seals && no_entry n entryArea) (refusal 5)
    ∷ check (seals && no_space (vs ++ v ∷ []) n byteArea) (refusal 4)
    ∷ [])
    (values [])

-- A flush with nothing waiting succeeds. Any other needs an entry and room for a block of what waits.
unfoldable pub flush_reply : List ℕ → Bool → ℕ → ℕ → Reply
flush_reply vs closed byteArea entryArea =
    let n = length vs / 128 in
    first_that_holds
    (check (closed || eqb (length vs % 128) 0) (values [])
    ∷ check (no_entry n entryArea) (refusal 5)
    ∷ check (no_space vs n byteArea) (refusal 4)
    ∷ [])
    (values [])

unfoldable pub get_reply : List ℕ → ℕ → Reply
get_reply vs i = first_that_holds (check (leb (length vs) i) (refusal 7) ∷ []) (values (get_or vs i 0 ∷ []))

-- What a call gives where it lends nothing besides the areas.
abbrev pub says : Reply → Answer
says reply = answer reply []

-- A refusal leaves what was lent.
abbrev pub refuses : ℕ → List ℕ → Answer
refuses number lent = answer (refusal number) lent

unfoldable pub range_answer : List ℕ → ℕ → List ℕ → Answer
range_answer vs start out =
    first_that_holds
    (check (eqb (length out) 0) (answer (values []) out)
    ∷ check (ltb (length vs) (start + length out)) (refuses 7 out)
    ∷ [])
    (answer (values []) (stretch start (length out) vs))

-- "writes the ids whose value lies in the interval, ascending, at the start of the positions; places past the count stay as they were"
unfoldable pub search_answer : List ℕ → ℕ → ℕ → ℕ → ℕ → List ℕ → Answer
search_answer vs lo hi start end positions =
    first_that_holds
    (check (leb end start) (answer (values (0 ∷ [])) positions)
    ∷ check (ltb (length vs) end) (refuses 7 positions)
    ∷ check (ltb (length positions) (end - start)) (refuses 4 positions)
    ∷ [])
    (finds_ids (matching_ids lo hi start (stretch start (end - start) vs)) positions)

unfoldable pub paper_answer : Call → List ℕ → Bool → ℕ → ℕ → Answer
paper_answer (add v) vs closed byteArea entryArea = says (add_reply vs closed byteArea entryArea v)
paper_answer flush vs closed byteArea entryArea = says (flush_reply vs closed byteArea entryArea)
paper_answer count vs closed byteArea entryArea = says (values (length vs ∷ []))
paper_answer (get i) vs closed byteArea entryArea = says (get_reply vs i)
paper_answer (range start out) vs closed byteArea entryArea = range_answer vs start out
paper_answer (search lo hi start end positions) vs closed byteArea entryArea = search_answer vs lo hi start end positions
