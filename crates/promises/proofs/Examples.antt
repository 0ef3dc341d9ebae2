-- A test compares what the definitions give with what the paper says, fact by fact. The definitions compute, so it computes to true.
use mathlib.Core.Path.{◌≡◌, refl, ap, ap₂}
use mathlib.Core.Bool.{Bool, true, false, ◌&&◌, and-eq-true_iff}
use mathlib.Core.List.{List, [], ◌∷◌}
use Prim.Native.Nat.{ℕ}
use lib.Dec.{eqb}
use borrow.Author.Tests.{eqb-true}
use lib.Count.{count_leading_zeros}
use Rattle.bit_rule.specs.Bytes.{number, bytes_of}
use Rattle.bit_rule.specs.Stream.{total_bits, sum_from, stream_number, stream_bytes}
use Rattle.bit_rule.specs.Place.{bits_at, value_at, values_from}
use Rattle.bit_rule.specs.Search.{matching_ids}
use Rattle.bit_rule.specs.Width.{digits_of, width_of}
use Rattle.num_bits.specs.MinMax.{highest}
use Rattle.bitpacker.specs.Packer.{damaged_packer, written, write_of, flush_of}
use Rattle.bitpacker.specs.Run.{run_from, pack_of}
use Rattle.bitunpacker.specs.Unpacker.{ids_of, search_of}
use Rattle.block.specs.Block.{base_of, block_width, block_size, block_bytes, entry_words, entry_offset, entry_width, entry_base, damaged_entry, block_value}
use Rattle.blocked_bitpacker.specs.Store.{damaged_store, count_of, length_of_block, value_of}
use Rattle.blocked_bitpacker.specs.Calls.{new_of, sealed, add_of, flush_of as flushStoreOf, counted_of, get_of}
use Rattle.promises.specs.Reply.{Reply, values, refusal}
use Rattle.promises.specs.Runs.{rising, times, writes_from, writes, packer_flushed, fresh_on, adds, store_flushed, last_answer, count_in, value_in, block_in}
use Rattle.promises.specs.Examples.{Example, Holds, AllHold, example_a, example_b, example_c, example_d, example_e, example_f, example_g, example_h, example_i, example_j, example_k, example_l, examples}

-- ---- a test of two answers that computes

same_numbers : List ℕ → List ℕ → Bool
same_numbers [] [] = true
same_numbers [] (y ∷ ys) = false
same_numbers (x ∷ xs) [] = false
same_numbers (x ∷ xs) (y ∷ ys) = eqb x y && same_numbers xs ys

same_numbers_lem : (xs ys : List ℕ) → same_numbers xs ys ≡ true → xs ≡ ys
unfolding same_numbers
same_numbers_lem [] [] h = refl
same_numbers_lem [] (y ∷ ys) h = cc
same_numbers_lem (x ∷ xs) [] h = cc
same_numbers_lem (x ∷ xs) (y ∷ ys) h =
    let both = (and-eq-true_iff (eqb x y) (same_numbers xs ys)).0 h in
    ap₂ ◌∷◌ (eqb-true x y both.0) (same_numbers_lem xs ys both.1)

same_reply : Reply → Reply → Bool
same_reply (values xs) (values ys) = same_numbers xs ys
same_reply (values xs) (refusal n) = false
same_reply (refusal m) (values ys) = false
same_reply (refusal m) (refusal n) = eqb m n

same_reply_lem : (x y : Reply) → same_reply x y ≡ true → x ≡ y
unfolding same_reply
same_reply_lem (values xs) (values ys) h = ap values (same_numbers_lem xs ys h)
same_reply_lem (values xs) (refusal n) h = cc
same_reply_lem (refusal m) (values ys) h = cc
same_reply_lem (refusal m) (refusal n) h = ap refusal (eqb-true m n h)

-- ---- of every fact of every example

holds_test : Example → Bool
holds_test [] = true
holds_test (fact ∷ facts) = same_reply fact.computed fact.said && holds_test facts

all_hold_test : List Example → Bool
all_hold_test [] = true
all_hold_test (e ∷ es) = holds_test e && all_hold_test es

tested : (e : Example) → holds_test e ≡ true → Holds e
unfolding holds_test
tested [] h = tt
tested (fact ∷ facts) h =
    let both = (and-eq-true_iff (same_reply fact.computed fact.said) (holds_test facts)).0 h in
    (same_reply_lem fact.computed fact.said both.0, tested facts both.1)

all_tested : (es : List Example) → all_hold_test es ≡ true → AllHold es
unfolding all_hold_test
all_tested [] h = tt
all_tested (e ∷ es) h =
    let both = (and-eq-true_iff (holds_test e) (all_hold_test es)).0 h in
    (tested e both.0, all_tested es both.1)

-- ---- the examples

pub marked_examples_hold : AllHold examples
unfolding all_hold_test holds_test same_reply same_numbers examples
    example_a example_b example_c example_d example_e example_f example_g example_h example_i example_j example_k example_l
    rising times writes_from writes packer_flushed fresh_on adds store_flushed last_answer count_in value_in block_in
    count_leading_zeros digits_of width_of number bytes_of total_bits sum_from stream_number stream_bytes bits_at value_at values_from matching_ids
    damaged_packer written write_of flush_of run_from pack_of ids_of search_of
    highest base_of block_width block_size block_bytes entry_words entry_offset entry_width entry_base damaged_entry block_value
    damaged_store count_of length_of_block value_of new_of sealed add_of flushStoreOf counted_of get_of
marked_examples_hold = all_tested examples refl
