-- A bare column, packed and read: "A stream of values is the number sum of vi * 2^(w0+..+w(i-1)). Value i at width w is bits i*w to i*w+w-1
-- of the data." So what is packed is what is read: one value, a stretch of values, and the ids of those in an interval. The two statements
-- stand at the end; the proofs have the same names, written small: `packed_and_read` proves `PackedAndRead`.
use Rattle.std.specs.Prelude.{ℕ, ◌+◌, ◌-◌, ◌*◌, ◌^◌, ◌≤◌, ◌<◌, ◌≡◌, true, List, [], ◌∷◌, length, get_or, take, drop}
use Rattle.bit_rule.specs.Bytes.{AreBytes, number, bytes_for}
use Rattle.bit_rule.specs.Width.{legal_width}
use Rattle.bit_rule.specs.Stream.{Fit, of_width, stream_bytes}
use Rattle.bit_rule.specs.Search.{matching_ids, at_start}
use Rattle.bitpacker.specs.Packer.{Outcome}
use Rattle.bitpacker.specs.Run.{pack_of}
use Rattle.bitunpacker.specs.Unpacker.{unpacker_of, get_of, get_range_of, search_of}
use Rattle.promises.specs.Reply.{values, answer, written_answer, emits, number_reply, filled_answer, found_answer, finds_ids}

-- The values of a list from index `start` on, so many of them.
abbrev pub stretch : ℕ → ℕ → List ℕ → List ℕ
stretch start n vs = take n (drop start vs)

-- Bytes from which an unpacker of width w reads the list vs.
pub record ReadsAs (w : ℕ) (vs bytes : List ℕ) : Type 0 where
  -- Each value is read by its index.
  pub one : (i : ℕ) → i < length vs → number_reply (get_of (unpacker_of w) i bytes) ≡ values (get_or vs i 0 ∷ [])
  -- "A range read fills the output with values start, start+1, ..": an output that reaches no further than the list.
  pub some_values : (start : ℕ) (out : List ℕ) → start + length out ≤ length vs
      → filled_answer (get_range_of (unpacker_of w) start bytes out) ≡ answer (values []) (stretch start (length out) vs)
  -- An output of as many places as the list has is filled with the list.
  pub all_values : (out : List ℕ) → length out ≡ length vs → filled_answer (get_range_of (unpacker_of w) 0 bytes out) ≡ answer (values []) vs
  -- A search finds, among the ids from start to before end, exactly those of the list's values in lo..hi, ascending.
  pub some_ids : (lo hi start end : ℕ) (positions : List ℕ) → end ≤ length vs → end - start ≤ length positions
      → found_answer (search_of (unpacker_of w) lo hi start end bytes positions) ≡ finds_ids (matching_ids lo hi start (stretch start (end - start) vs)) positions
  -- Over the ids of the whole list, those of its values in lo..hi.
  pub all_ids : (lo hi : ℕ) (positions : List ℕ) → length vs ≤ length positions
      → found_answer (search_of (unpacker_of w) lo hi 0 (length vs) bytes positions) ≡ finds_ids (matching_ids lo hi 0 vs) positions

-- Packing vs at width w into an output and reading what it left.
pub record IsPackedAndRead (w : ℕ) (vs output : List ℕ) : Type 0 where
  -- It is not refused: ceil(n*w/8) bytes are emitted, those of the stream, later bytes stay, and the packer holds nothing then.
  pub packed : written_answer (pack_of (of_width w vs) output) ≡ emits (bytes_for (length vs * w)) (at_start (stream_bytes (of_width w vs)) output)
  -- What the output then holds is read as the list.
  pub read : ReadsAs w vs (pack_of (of_width w vs) output).output

-- The other way round: bytes that an unpacker fills an output from, packed again from that output.
abbrev pub packed_again : ℕ → List ℕ → List ℕ → List ℕ → Outcome
packed_again w bytes out output = pack_of (of_width w (get_range_of (unpacker_of w) 0 bytes out).output) output

-- ---- the statements

-- What is packed is what is read. For every legal reading width w (0 to 56, or 64), every list of values each of which is below 2^w, and every
-- output, whatever it holds, with room for the ceil(n*w/8) bytes of n such values: they are packed, and what the output then holds is read as
-- the list.
abbrev pub PackedAndRead : Type 0
PackedAndRead =
    (w : ℕ) (vs output : List ℕ) → legal_width w ≡ true → Fit (of_width w vs) → bytes_for (length vs * w) ≤ length output
    → IsPackedAndRead w vs output

-- What is read is what was packed. For every legal reading width w, and bytes that can be those of n values: they are ceil(n*w/8) many, and
-- the bits to spare in the last are 0, so that as a number they are below 2^(n*w). They are read into `out`, any output of n places, and what
-- it then holds is packed into `output`, any that is at least as long as the bytes: it then starts with these bytes, and its later ones stay.
abbrev pub ReadAndPacked : Type 0
ReadAndPacked =
    (w : ℕ) (bytes out output : List ℕ) → legal_width w ≡ true
    → AreBytes bytes → length bytes ≡ bytes_for (length out * w) → number bytes < 2 ^ (length out * w)
    → length bytes ≤ length output
    → written_answer (packed_again w bytes out output) ≡ emits (length bytes) (at_start bytes output)
