-- Histories of a store: any calls with any arguments, one after the other, each given the store and the areas that the last one left. What a
-- call answers and leaves is what its contract cites.
use Rattle.std.specs.Prelude.{ℕ, ◌^◌, ◌<◌, ◌≡◌, Bool, false, ◌||◌, List, [], ◌∷◌, ◌++◌, ltb}
use Rattle.bitunpacker.specs.Unpacker.{Range, Search}
use Rattle.blocked_bitpacker.specs.Calls.{Changed, new_of, add_of, flush_of, counted_of, get_of, get_range_of, search_of}
use Rattle.promises.specs.Reply.{Reply, values, refusal, Answer, answer, done_reply, number_reply, filled_answer, found_answer}
use Rattle.promises.specs.Defined.{Held, held}

-- ---- a call

-- With a range read goes the output that is lent to it, with a search the positions.
pub data Call : Type 0 where
  add : ℕ → Call
  flush : Call
  count : Call
  get : ℕ → Call
  range : ℕ → List ℕ → Call
  search : ℕ → ℕ → ℕ → ℕ → List ℕ → Call

-- What a call lends besides the areas.
abbrev pub lent_to : Call → List ℕ
lent_to (add v) = []
lent_to flush = []
lent_to count = []
lent_to (get i) = []
lent_to (range start out) = out
lent_to (search lo hi start end positions) = positions

-- What a call answers, with what was lent to it, and what it leaves.
pub record Outcome : Type 0 where
  pub answer : Answer
  pub left : Held

abbrev pub gives : Reply → List ℕ → Held → Outcome
gives reply lent h = record { answer = answer reply lent; left = h }

abbrev pub changes : Changed → Outcome
changes c = gives (done_reply c.stored.done) [] (held c.stored.store c.bytes c.entries)

abbrev pub fills : Held → Range → Outcome
fills h r = record { answer = filled_answer r; left = h }

abbrev pub finds : Held → Search → Outcome
finds h r = record { answer = found_answer r; left = h }

-- The call with the store and the areas.
unfoldable pub outcome_of : Call → Held → Outcome
outcome_of (add v) h = changes (add_of h.store v h.bytes h.entries)
outcome_of flush h = changes (flush_of h.store h.bytes h.entries)
outcome_of count h = gives (number_reply (counted_of h.store h.bytes h.entries)) [] h
outcome_of (get i) h = gives (number_reply (get_of h.store i h.bytes h.entries)) [] h
outcome_of (range start out) h = fills h (get_range_of h.store start h.bytes h.entries out)
outcome_of (search lo hi start end positions) h = finds h (search_of h.store lo hi start end h.bytes h.entries positions)

abbrev pub reply_of : Call → Held → Reply
reply_of c h = (outcome_of c h).answer.reply

abbrev pub left_by : Call → Held → Held
left_by c h = (outcome_of c h).left

-- ---- a run

-- A fresh store on two areas.
abbrev pub begun : List ℕ → List ℕ → Held
begun bytes entries = held (new_of bytes).stored.store (new_of bytes).bytes entries

-- What a run leaves.
unfoldable pub after : List Call → Held → Held
after [] h = h
after (c ∷ cs) h = after cs (left_by c h)

-- What its calls answer.
unfoldable pub answers : List Call → Held → List Answer
answers [] h = []
answers (c ∷ cs) h = (outcome_of c h).answer ∷ answers cs (left_by c h)

-- The value of an add that was not refused.
abbrev pub taken : Call → Reply → List ℕ
taken (add v) (values _) = v ∷ []
taken (add v) (refusal _) = []
taken flush _ = []
taken count _ = []
taken (get i) _ = []
taken (range start out) _ = []
taken (search lo hi start end positions) _ = []

-- The accepted values: those of the adds that were not refused, in their order.
unfoldable pub accepted : List Call → Held → List ℕ
accepted [] h = []
accepted (c ∷ cs) h = taken c (reply_of c h) ++ accepted cs (left_by c h)

-- A flush that was not refused and had values to seal.
abbrev pub closing : Call → Reply → ℕ → Bool
closing flush (values _) waiting = ltb 0 waiting
closing flush (refusal _) waiting = false
closing (add v) _ waiting = false
closing count _ waiting = false
closing (get i) _ waiting = false
closing (range start out) _ waiting = false
closing (search lo hi start end positions) _ waiting = false

-- Whether a run closes the store.
unfoldable pub closed_by : List Call → Held → Bool
closed_by [] h = false
closed_by (c ∷ cs) h = closing c (reply_of c h) h.store.waiting || closed_by cs (left_by c h)

-- Added values are words of 64 bits, as every u64 is.
abbrev pub WordsAdded : List Call → Type 0
WordsAdded [] = Unit {0}
WordsAdded (add v ∷ cs) = (v < 2 ^ 64) × WordsAdded cs
WordsAdded (flush ∷ cs) = WordsAdded cs
WordsAdded (count ∷ cs) = WordsAdded cs
WordsAdded (get i ∷ cs) = WordsAdded cs
WordsAdded (range start out ∷ cs) = WordsAdded cs
WordsAdded (search lo hi start end positions ∷ cs) = WordsAdded cs

-- A history: the making was not refused, and the values are words.
pub record History (bytes : List ℕ) (calls : List Call) : Type 0 where
  pub made : done_reply (new_of bytes).stored.done ≡ values []
  pub words : WordsAdded calls
