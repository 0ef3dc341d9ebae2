-- The calls that the marked examples speak of, one after the other, each given what the last one left.
use Rattle.std.specs.Prelude.{ℕ, zero, suc, ◌+◌, List, [], ◌∷◌, ◌++◌, replicate}
use Rattle.bitpacker.specs.Packer.{Outcome, outcome, fresh, write_of, flush_of, emitting}
use Rattle.bitpacker.specs.Run.{go_on}
use Rattle.block.specs.Block.{entry_width, entry_base}
use Rattle.blocked_bitpacker.specs.Calls.{Changed, changed, new_of, add_of, flush_of as flushStoreOf, counted_of, get_of}
use Rattle.promises.specs.Reply.{Reply, values, number_reply, done_reply}

-- ---- lists of values

-- first, first + 1, ..: so many values
unfoldable pub rising : ℕ → ℕ → List ℕ
rising zero first = []
rising (suc n) first = first ∷ rising n (first + 1)

-- a list so many times over
unfoldable pub times : ℕ → List ℕ → List ℕ
times zero vs = []
times (suc n) vs = vs ++ times n vs

-- ---- a packer

-- An output with room for eight bytes, which are not 0 before.
abbrev pub eight_places : List ℕ
eight_places = replicate 8 0xEE

-- Writes at one width, each to the start of the output: what the last one answers and leaves.
unfoldable pub writes_from : ℕ → List ℕ → Outcome → Outcome
writes_from w [] o = o
writes_from w (v ∷ vs) o = writes_from w vs (go_on o.answer (λ p n. write_of p v w o.output) o.output)

-- From a packer that holds nothing.
unfoldable pub writes : ℕ → List ℕ → Outcome
writes w vs = writes_from w vs (outcome (emitting fresh 0) eight_places)

unfoldable pub packer_flushed : Outcome → Outcome
packer_flushed o = go_on o.answer (λ p n. flush_of p o.output) o.output

-- ---- a store

-- A fresh store on a byte area of so many bytes, which are not 0 before, with entry words for one block.
unfoldable pub fresh_on : ℕ → Changed
fresh_on byteArea = let m = new_of (replicate byteArea 0xEE) in changed m.stored m.bytes (replicate 2 0)

-- Adds, refused ones included: what the last one answers, and the store and its areas then.
unfoldable pub adds : List ℕ → Changed → Changed
adds [] c = c
adds (v ∷ vs) c = adds vs (add_of c.stored.store v c.bytes c.entries)

unfoldable pub store_flushed : Changed → Changed
store_flushed c = flushStoreOf c.stored.store c.bytes c.entries

-- What the last call answered.
unfoldable pub last_answer : Changed → Reply
last_answer c = done_reply c.stored.done

unfoldable pub count_in : Changed → Reply
count_in c = number_reply (counted_of c.stored.store c.bytes c.entries)

unfoldable pub value_in : ℕ → Changed → Reply
value_in i c = number_reply (get_of c.stored.store i c.bytes c.entries)

-- Of a store with one block: the block's width, the used bytes and the block's base.
unfoldable pub block_in : Changed → Reply
block_in c = values (entry_width 0 c.entries ∷ c.stored.store.used ∷ entry_base 0 c.entries ∷ [])
