-- Document 01, "Marked examples": what the definitions give beside what the paper says, in one list.
use Rattle.std.specs.Prelude.{ℕ, ◌+◌, ◌-◌, ◌*◌, ◌^◌, ◌≡◌, List, [], ◌∷◌, map, replicate}
use Rattle.bit_rule.specs.Stream.{of_width, stream_bytes}
use Rattle.bit_rule.specs.Width.{width_of}
use Rattle.bitpacker.specs.Run.{pack_of}
use Rattle.bitunpacker.specs.Unpacker.{Search, unpacker_of, search_of}
use Rattle.block.specs.Block.{entry_words, entry_offset, entry_width}
use Rattle.promises.specs.Reply.{Reply, values, refusal, emitted, found}
use Rattle.promises.specs.Runs.{rising, times, eight_places, writes, packer_flushed, fresh_on, adds, store_flushed, last_answer, count_in, value_in, block_in}

-- One fact of an example: what the definitions give, and what the paper says.
pub record Fact : Type 0 where
  pub computed : Reply
  pub said : Reply

infix 68 ◌is◌
abbrev pub ◌is◌ : Reply → Reply → Fact
given is paper = record { computed = given; said = paper }

abbrev pub Example : Type 0
Example = List Fact

-- An example holds where what the definitions give is what the paper says, in each of its facts.
abbrev pub Holds : Example → Type 0
Holds [] = Unit {0}
Holds (fact ∷ facts) = (fact.computed ≡ fact.said) × Holds facts

abbrev pub AllHold : List Example → Type 0
AllHold [] = Unit {0}
AllHold (e ∷ es) = Holds e × AllHold es

-- a. "Width of 0, 1, 10, 255, 256: 0, 1, 4, 8, 9."
unfoldable pub example_a : Example
example_a = values (map width_of (0 ∷ 1 ∷ 10 ∷ 255 ∷ 256 ∷ [])) is values (0 ∷ 1 ∷ 4 ∷ 8 ∷ 9 ∷ []) ∷ []

-- b. "Of 2^56-1: 56; of 2^56: 64."
unfoldable pub example_b : Example
example_b = values (map width_of ((2 ^ 56 - 1) ∷ (2 ^ 56) ∷ [])) is values (56 ∷ 64 ∷ []) ∷ []

-- c. "1, 2, 3 at 4 bits: bytes 21 03 (hex)."
unfoldable pub example_c : Example
example_c =
    let column = of_width 4 (1 ∷ 2 ∷ 3 ∷ []) in
    values (stream_bytes column) is values (0x21 ∷ 0x03 ∷ [])
    ∷ emitted (pack_of column eight_places) is values (0x21 ∷ 0x03 ∷ [])
    ∷ []

-- d. "5, 6, 7 at 3 bits: F5 01."
unfoldable pub example_d : Example
example_d =
    let column = of_width 3 (5 ∷ 6 ∷ 7 ∷ []) in
    values (stream_bytes column) is values (0xF5 ∷ 0x01 ∷ [])
    ∷ emitted (pack_of column eight_places) is values (0xF5 ∷ 0x01 ∷ [])
    ∷ []

-- e. "Three zeros at width 0: no bytes." So they are packed into an output of none.
unfoldable pub example_e : Example
example_e =
    let column = of_width 0 (0 ∷ 0 ∷ 0 ∷ []) in
    values (stream_bytes column) is values [] ∷ emitted (pack_of column []) is values [] ∷ []

-- f. "64 ones at 1 bit: the last write emits eight FF; flush emits none."
unfoldable pub example_f : Example
example_f =
    emitted (writes 1 (replicate 63 1)) is values []
    ∷ emitted (writes 1 (replicate 64 1)) is values (replicate 8 0xFF)
    ∷ emitted (packer_flushed (writes 1 (replicate 64 1))) is values []
    ∷ []

-- g. "F5 01, width 3, interval 6..9, ids 0..3 (before 3): 1, 2. End 5 is in the data, end 6 is refused 3."
unfoldable pub example_g : Example
example_g =
    let searchBefore : ℕ → Search = λ end. search_of (unpacker_of 3) 6 9 0 end (0xF5 ∷ 0x01 ∷ []) (replicate end 0) in
    found (searchBefore 3) is values (1 ∷ 2 ∷ [])
    ∷ found (searchBefore 5) is values (1 ∷ 2 ∷ [])
    ∷ found (searchBefore 6) is refusal 3
    ∷ []

-- h. "Value 8 at width 3: refused 2; 7 accepted."
unfoldable pub example_h : Example
example_h = emitted (writes 3 (8 ∷ [])) is refusal 2 ∷ emitted (writes 3 (7 ∷ [])) is values [] ∷ []

-- i. "Offset 50000, width 6: entry word 50000 + 6 * 2^56." The width of the values 100 and 140 is 6, and the second word is their base. The
-- first is read back as that offset and that width.
unfoldable pub example_i : Example
example_i =
    let words = entry_words 50000 (100 ∷ 140 ∷ []) in
    values words is values ((50000 + 6 * 2 ^ 56) ∷ 100 ∷ [])
    ∷ values (entry_offset 0 words ∷ entry_width 0 words ∷ []) is values (50000 ∷ 6 ∷ [])
    ∷ []

-- j. "(Here to l, entry words suffice.) 1000, 1001, .. 1127: w 7, 112 bytes, base 1000. Byte area 120 suffices; with 119 the 128th add is
-- refused 4 and the count is 127."
unfoldable pub example_j : Example
example_j =
    let enough = adds (rising 128 1000) (fresh_on 120) in
    let short = adds (rising 128 1000) (fresh_on 119) in
    last_answer enough is values []
    ∷ count_in enough is values (128 ∷ [])
    ∷ block_in enough is values (7 ∷ 112 ∷ 1000 ∷ [])
    ∷ last_answer short is refusal 4
    ∷ count_in short is values (127 ∷ [])
    ∷ []

-- k. "127 fives, byte area 8: adding 6 is refused 4; adding 5 is then accepted, w 0."
unfoldable pub example_k : Example
example_k =
    let fives = adds (replicate 127 5) (fresh_on 8) in
    let six = adds (6 ∷ []) fives in
    let five = adds (5 ∷ []) six in
    last_answer six is refusal 4
    ∷ last_answer five is values []
    ∷ count_in five is values (128 ∷ [])
    ∷ block_in five is values (0 ∷ 0 ∷ 5 ∷ [])
    ∷ []

-- l. "117 values 0..12 flushed (lowest 0, highest 12): 59 bytes, closed; the next add is refused 6; index 117 is refused 7." The values are 0
-- to 12 nine times over, and the last of them is read at index 116.
unfoldable pub example_l : Example
example_l =
    let closed = store_flushed (adds (times 9 (rising 13 0)) (fresh_on 67)) in
    last_answer closed is values []
    ∷ count_in closed is values (117 ∷ [])
    ∷ block_in closed is values (4 ∷ 59 ∷ 0 ∷ [])
    ∷ last_answer (adds (0 ∷ []) closed) is refusal 6
    ∷ value_in 116 closed is values (12 ∷ [])
    ∷ value_in 117 closed is refusal 7
    ∷ []

unfoldable pub examples : List Example
examples =
    example_a
    ∷ example_b
    ∷ example_c
    ∷ example_d
    ∷ example_e
    ∷ example_f
    ∷ example_g
    ∷ example_h
    ∷ example_i
    ∷ example_j
    ∷ example_k
    ∷ example_l
    ∷ []
