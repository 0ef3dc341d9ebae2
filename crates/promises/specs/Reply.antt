-- An answer as document 01 writes it: a refusal is "its number and nothing else", and any other answer is its values. One definition for
-- each kind of answer gives the number and the values of its cases. What a call writes stands in the buffer that was lent to it.
use Rattle.std.specs.Prelude.{ℕ, List, [], ◌∷◌, length, take, Float, Some, None, Ok, Err, Result}
use Rattle.std.specs.declared.option.Option.{Option}
use Rattle.std.specs.Float.Ieee.{to_bits}
use Rattle.std.specs.Float.{binary64}
use Rattle.refusal.specs.declared.Refusal.{Refusal}
use Rattle.bit_rule.specs.Search.{at_start}
use Rattle.refusal.specs.Number.{number_of}
use Rattle.bitpacker.specs.declared.Written.{Written}
use Rattle.bitpacker.specs.Packer.{Outcome}
use Rattle.bitunpacker.specs.Unpacker.{Range, Search}
use Rattle.block.specs.declared.Sealed.{Sealed}
use Rattle.bitunpacker.specs.declared.BitUnpacker.{BitUnpacker}

pub data Reply : Type 0 where
  values : List ℕ → Reply
  refusal : ℕ → Reply

-- ---- each kind of answer

-- The lowest and the highest, or none. Of floats, their patterns of 64 bits.
abbrev pub words_reply : Option (ℕ × ℕ) → Reply
words_reply None = values []
words_reply (Some (low, high)) = values (low ∷ high ∷ [])

abbrev pub floats_reply : Option (Float × Float) → Reply
floats_reply None = values []
floats_reply (Some (low, high)) = values (to_bits binary64 low ∷ to_bits binary64 high ∷ [])

-- How many bytes a write or a flush emitted, and what the packer then holds: its bits and how many they are.
abbrev pub written_reply : Result Written Refusal → Reply
written_reply (Ok w) = values (w.emitted ∷ w.packer.mini_buffer ∷ w.packer.mini_buffer_written ∷ [])
written_reply (Err why) = refusal (number_of why)

-- The unpacker that was made.
abbrev pub made_reply : Result BitUnpacker Refusal → Reply
made_reply (Ok u) = values (u.num_bits ∷ u.mask ∷ [])
made_reply (Err why) = refusal (number_of why)

-- A number: the value that a single read gave, how many ids a search found, how many values a store has accepted.
abbrev pub number_reply : Result ℕ Refusal → Reply
number_reply (Ok n) = values (n ∷ [])
number_reply (Err why) = refusal (number_of why)

-- No value: of a range read, whose values stand in the output, and of a call that changes a store.
abbrev pub done_reply : Result (Unit {0}) Refusal → Reply
done_reply (Ok _) = values []
done_reply (Err why) = refusal (number_of why)

-- A sealed block's base, width and size.
abbrev pub sealing_reply : Result Sealed Refusal → Reply
sealing_reply (Ok s) = values (s.base ∷ s.width ∷ s.size ∷ [])
sealing_reply (Err why) = refusal (number_of why)

-- ---- with what was lent

-- What is answered, and what the call left in the output or the positions that were lent to it.
pub record Answer : Type 0 where
  pub reply : Reply
  pub lent : List ℕ

abbrev pub answer : Reply → List ℕ → Answer
answer reply lent = record { reply = reply; lent = lent }

abbrev pub written_answer : Outcome → Answer
written_answer o = answer (written_reply o.answer) o.output

-- So many bytes were emitted and nothing is held any more.
abbrev pub emits : ℕ → List ℕ → Answer
emits n output = answer (values (n ∷ 0 ∷ 0 ∷ [])) output

abbrev pub filled_answer : Range → Answer
filled_answer r = answer (done_reply r.answer) r.output

abbrev pub found_answer : Search → Answer
found_answer s = answer (number_reply s.answer) s.positions

-- A search that found these ids: "at the start of the positions; places past the count stay as they were".
abbrev pub finds_ids : List ℕ → List ℕ → Answer
finds_ids ids positions = answer (values (length ids ∷ [])) (at_start ids positions)

-- What a call wrote: as many elements of what was lent as it says.
abbrev pub wrote : Reply → List ℕ → Reply
wrote (values []) lent = values []
wrote (values (n ∷ others)) lent = values (take n lent)
wrote (refusal number) lent = refusal number

-- The bytes that a write, a flush or a whole run emitted.
abbrev pub emitted : Outcome → Reply
emitted o = wrote (written_reply o.answer) o.output

-- The ids that a search found.
abbrev pub found : Search → Reply
found s = wrote (number_reply s.answer) s.positions
