-- The search in batches: what the filter leaves of a batch are its matching ids, and the ids of one stretch after the other are those of both.
use Rattle.std.specs.Prelude.{Ok}
use mathlib.Core.Path.{◌≡◌, sym, ap, ap₂, ◌∙◌, subst}
use mathlib.Core.List.{List, [], ◌++◌, append-nil}
use Prim.Native.Nat.{ℕ, ◌+◌, ◌-◌, ◌*◌, ◌/◌, ◌%◌, ◌^◌, ◌≤◌, ◌<◌, min, zero-le}
use native.Mathlib.Nat.{zero-add, add-zero, add-mul, sub_self, le_trans, lt_of_lt_of_le, mul-le-mul_right}
use native.Mathlib.Omega.{arith}
use lib.Pow.{pow_mono}
use lib.ListN.{length, get_or, take, drop, replicate, length-append, length-drop}
use lib.Seq.{take_all, take-append_seam, length-take-le, drop-drop, drop-length}
use Rattle.bit_rule.specs.Bytes.{AreBytes}
use Rattle.bit_rule.specs.Place.{values_from}
use Rattle.bit_rule.specs.Search.{matching_ids, at_start, pasted_at}
use Rattle.bit_rule.proofs.Place.{drop_are_bytes, length-values_from, values_from-add, values_from-lt, values_from-drop}
use Rattle.bit_rule.proofs.Search.{matching_le, matching_append, none_above, hi_cut, paste_first, paste_none, paste_paste}
use Rattle.bitunpacker.proofs.Laws.{eights}
use Rattle.filter_vec.specs.Filter.{filtered, filter_of}
use Rattle.bitunpacker.specs.declared.BitUnpacker.{BitUnpacker}
use Rattle.bitunpacker.specs.Parts.{InData, Kept}
use Rattle.bitunpacker.specs.Unpacker.{search, ids_of}

-- ---- the filter's answer, where every value has an id

pub record Left (ids vals : List ℕ) (r : ℕ) (out : List ℕ) : Type 0 where
  pub count : r ≡ length ids
  pub left : out ≡ at_start ids vals

pub filter_left : (lo hi id : ℕ) (vals : List ℕ) (r : ℕ) (out : List ℕ) → filtered r out ≡ filter_of lo hi id vals → id + length vals ≤ 2 ^ 32
    → Left (matching_ids lo hi id vals) vals r out
unfolding filter_of
filter_left lo hi id vals r out is few =
    let whole : take (2 ^ 32 - id) vals ≡ vals = take_all (2 ^ 32 - id) vals (omega arith) in
    record {
      count = ap (λ f. f.count) is ∙ ap (λ l. length (matching_ids lo hi id l)) whole;
      left = ap (λ f. f.left) is ∙ ap (λ l. at_start (matching_ids lo hi id l) vals) whole;
    }

-- the ids are the front of what is left
pub front : (ids vals : List ℕ) (r : ℕ) (out : List ℕ) → Left ids vals r out → take r out ≡ ids
front ids vals r out l = ap₂ take l.count l.left ∙ take-append_seam ids (drop (length ids) vals)

-- ---- where a batch lies

-- the first n of the 32 places of a batch
abbrev pub zeros : List ℕ
zeros = replicate 32 0

pub length_batch : (n : ℕ) → n ≤ 32 → length (take n zeros) ≡ n
length_batch n few = length-take-le n zeros few

-- an index that is a multiple of eight starts on a byte
pub on_a_byte : (k w : ℕ) → k % 8 ≡ 0 → 8 * (k / 8 * w) ≡ k * w
on_a_byte k w even = sym (eights k w ∙ ap (λ r. 8 * (k / 8 * w) + r * w) even ∙ omega arith)

-- the rest of the data from a byte on, as the part of a slice has it
abbrev pub rest_from : ℕ → List ℕ → List ℕ
rest_from a bs = take (length bs - a) (drop a bs)

pub rest_from_is : (a : ℕ) (bs : List ℕ) → rest_from a bs ≡ drop a bs
rest_from_is a bs = take_all (length bs - a) (drop a bs) (simp length-drop (omega arith))

-- the values of a part that starts where value k does
pub part_values : (w k n : ℕ) (bs : List ℕ) → AreBytes bs → k % 8 ≡ 0 → values_from w 0 n (rest_from (k / 8 * w) bs) ≡ values_from w k n bs
part_values w k n bs bytes even =
    ap (values_from w 0 n) (rest_from_is (k / 8 * w) bs)
    ∙ values_from-drop w (k / 8 * w) k 0 n bs bytes (on_a_byte k w even)
    ∙ ap (λ j. values_from w j n bs) (add-zero k)

-- and they lie in it
pub part_inside : (w k n : ℕ) (bs : List ℕ) → k % 8 ≡ 0 → (k + n) * w ≤ 8 * length bs → n * w ≤ 8 * length (rest_from (k / 8 * w) bs)
part_inside w k n bs even whole =
    let a = k / 8 * w in
    let left : length (rest_from a bs) ≡ length bs - a = ap length (rest_from_is a bs) ∙ length-drop a bs in
    omega (arith, on_a_byte k w even, add-mul k n w)

pub part_starts : (w k n : ℕ) (bs : List ℕ) → k % 8 ≡ 0 → (k + n) * w ≤ 8 * length bs → k / 8 * w ≤ length bs
part_starts w k n bs even whole = omega (arith, on_a_byte k w even, add-mul k n w)

-- the part of a column's data that starts where value k does: n values more lie in it
pub record PartOf (u : BitUnpacker) (k n : ℕ) (bs : List ℕ) : Type 0 where
  pub starts : k / 8 * u.num_bits ≤ length bs
  pub in_data : InData u n (rest_from (k / 8 * u.num_bits) bs)

pub part_of : {u : BitUnpacker} {count : ℕ} {bs : List ℕ} (k n : ℕ) → InData u count bs → k % 8 ≡ 0 → k + n ≤ count → PartOf u k n bs
part_of {u} {count} {bs} k n all even fewer =
    let w = u.num_bits in
    let whole : (k + n) * w ≤ 8 * length bs = le_trans (mul-le-mul_right w fewer) all.inside in
    record {
      starts = part_starts w k n bs even whole;
      in_data = record {
        sound = all.sound;
        as_bytes = subst AreBytes (sym (rest_from_is (k / 8 * w) bs)) (drop_are_bytes (k / 8 * w) bs all.as_bytes);
        few = omega (arith, all.few);
        inside = part_inside w k n bs even whole;
      };
    }

-- ---- one stretch after the other

-- the ids of a stretch and of the next are those of both
pub ids_add : (w lo hi from mid to : ℕ) (bs : List ℕ) → from ≤ mid → mid ≤ to
    → ids_of w lo hi from mid bs ++ ids_of w lo hi mid to bs ≡ ids_of w lo hi from to bs
unfolding ids_of
ids_add w lo hi from mid to bs first second =
    let us = values_from w from (mid - from) bs in
    let there : from + (mid - from) ≡ mid = omega arith in
    let all : to - from ≡ mid - from + (to - mid) = omega arith in
    sym
    (ap (λ n. matching_ids lo hi from (values_from w from n bs)) all
    ∙ ap (matching_ids lo hi from) (values_from-add w from (mid - from) (to - mid) bs)
    ∙ matching_append lo hi from us (values_from w (from + (mid - from)) (to - mid) bs)
    ∙ ap₂ (λ id k. matching_ids lo hi from us ++ matching_ids lo hi id (values_from w k (to - mid) bs)) (ap (λ n. from + n) (length-values_from w from (mid - from) bs) ∙ there) there)

pub kept_same : {found : ℕ} {ids ids' before : List ℕ} {r : ℕ} {after : List ℕ} → ids ≡ ids' → Kept found ids before r after → Kept found ids' before r after
kept_same {found} {before} {r} {after} e kept = subst (λ l. Kept found l before r after) e kept

-- what was kept, and then behind it, is kept together
pub kept_more : {found : ℕ} {ids more before : List ℕ} {r₁ : ℕ} {middle : List ℕ} {r₂ : ℕ} {after : List ℕ} → found ≤ length before
    → Kept found ids before r₁ middle → Kept r₁ more middle r₂ after → Kept found (ids ++ more) before r₂ after
kept_more {found} {ids} {more} {before} within first second =
    record {
      count = omega (arith, first.count, second.count, length-append ids more);
      pasted = second.pasted ∙ ap₂ (λ n l. pasted_at n more l) first.count first.pasted ∙ paste_paste found ids more before within;
    }

-- no ids kept
pub kept_empty : (found : ℕ) {ids : List ℕ} (positions : List ℕ) → ids ≡ [] → Kept found ids positions found positions
kept_empty found positions none =
    record {
      count = sym (ap (λ l. found + length l) none ∙ add-zero found);
      pasted = sym (ap (λ l. pasted_at found l positions) none ∙ paste_none found positions);
    }

pub kept_none : (w lo hi at found : ℕ) (bs positions : List ℕ) → Kept found (ids_of w lo hi at at bs) positions found positions
unfolding ids_of values_from matching_ids
kept_none w lo hi at found bs positions =
    kept_empty found positions (ap (λ n. matching_ids lo hi at (values_from w at n bs)) (sub_self at))

-- ---- values of up to 32 bits

module _ (w : ℕ) (narrow : w ≤ 32) (lo hi from to : ℕ) (bs : List ℕ) where
  small : (i : ℕ) → get_or (values_from w from (to - from) bs) i 0 < 2 ^ 32
  small i = lt_of_lt_of_le (values_from-lt w from (to - from) bs i) (pow_mono narrow)

  -- a lower end above 32 bits matches none of them
  pub none_narrow : 2 ^ 32 ≤ lo → ids_of w lo hi from to bs ≡ []
  unfolding ids_of
  none_narrow high = none_above lo hi from (values_from w from (to - from) bs) (λ i. lt_of_lt_of_le (small i) high)

  -- an upper end above 32 bits may be brought down
  pub narrow_cut : ids_of w lo (min hi (2 ^ 32 - 1)) from to bs ≡ ids_of w lo hi from to bs
  unfolding ids_of
  narrow_cut = hi_cut lo hi (2 ^ 32 - 1) from (values_from w from (to - from) bs) (λ i. let below = small i in omega arith)

pub ids_le : (w lo hi from to : ℕ) (bs : List ℕ) → length (ids_of w lo hi from to bs) ≤ to - from
unfolding ids_of
ids_le w lo hi from to bs = omega (arith, matching_le lo hi from (values_from w from (to - from) bs), length-values_from w from (to - from) bs)

-- fewer values lie in the data too
pub in_data_less : {u : BitUnpacker} {n : ℕ} {bs : List ℕ} (m : ℕ) → m ≤ n → InData u n bs → InData u m bs
in_data_less {u} m fewer all =
    record {
      sound = all.sound;
      as_bytes = all.as_bytes;
      few = omega (arith, all.few);
      inside = le_trans (mul-le-mul_right u.num_bits fewer) all.inside;
    }

-- ---- ids kept behind those found already

-- the positions, where a part of them from a place on was written
abbrev with_rest : ℕ → List ℕ → List ℕ → List ℕ
with_rest found positions rest = take found positions ++ (rest ++ drop (length positions - found) (drop found positions))

-- nothing lies behind that part
with_rest_is : (found : ℕ) (positions rest : List ℕ) → found ≤ length positions → with_rest found positions rest ≡ take found positions ++ rest
with_rest_is found positions rest inside =
    let whole : found + (length positions - found) ≡ length positions = omega arith in
    let none : drop (length positions - found) (drop found positions) ≡ [] =
    drop-drop (length positions - found) found positions ∙ ap (λ k. drop k positions) whole ∙ drop-length positions in
    ap (λ l. take found positions ++ (rest ++ l)) none ∙ ap (λ l. take found positions ++ l) (append-nil rest)

-- ids kept at the start of that part
pub kept_behind : (found : ℕ) {ids : List ℕ} (positions : List ℕ) {r : ℕ} {rest : List ℕ} → Kept 0 ids (rest_from found positions) r rest → found ≤ length positions
    → Kept found ids positions (found + r) (with_rest found positions rest)
kept_behind found {ids} positions {r} {rest} kept inside =
    let part : rest ≡ ids ++ drop (found + length ids) positions =
    kept.pasted
    ∙ paste_first ids (rest_from found positions)
    ∙ ap (λ l. ids ++ l) (ap (drop (length ids)) (rest_from_is found positions) ∙ drop-drop (length ids) found positions) in
    record { count = omega (arith, kept.count); pasted = with_rest_is found positions rest inside ∙ ap (λ l. take found positions ++ l) part }

-- Where a search stands at an index: the ids of the matching values before that one are kept.
pub record StandsBefore (w lo hi start : ℕ) (bs before : List ℕ) (at found : ℕ) (positions : List ℕ) : Type 0 where
  pub onwards : start ≤ at
  pub kept : Kept 0 (ids_of w lo hi start at bs) before found positions
  pub same : length positions ≡ length before

module _ {w lo hi start : ℕ} {bs before : List ℕ} {at found : ℕ} {positions : List ℕ} (here : StandsBefore w lo hi start bs before at found positions) where
  -- it finds no more ids than it passes
  pub few_found : found ≤ at - start
  few_found = omega (arith, here.kept.count, ids_le w lo hi start at bs)

  -- so there is a place for each id that is left
  pub room_left : (to : ℕ) → at ≤ to → to - start ≤ length before → to - at ≤ length (rest_from found positions)
  room_left to ordered room =
      let left : length (rest_from found positions) ≡ length positions - found = ap length (rest_from_is found positions) ∙ length-drop found positions in
      omega (arith, left, few_found, here.onwards, here.same)

  -- a stretch more
  pub stands_further : (to : ℕ) {r : ℕ} {rest : List ℕ} → at ≤ to → at - start ≤ length before
      → Kept 0 (ids_of w lo hi at to bs) (rest_from found positions) r rest → length rest ≡ length (rest_from found positions)
      → StandsBefore w lo hi start bs before to (found + r) (with_rest found positions rest)
  stands_further to {r} {rest} ordered room stretch same =
      let inside : found ≤ length positions = omega (arith, few_found, here.same) in
      record {
        onwards = omega (arith, here.onwards);
        kept = kept_same (ids_add w lo hi start at to bs here.onwards ordered) (kept_more zero-le here.kept (kept_behind found positions stretch inside));
        same = ap length (with_rest_is found positions rest inside)
            ∙ length-append (take found positions) rest
            ∙ omega (arith, length-take-le found positions inside, same, ap length (rest_from_is found positions), length-drop found positions, here.same);
      }

  -- the same place by another name
  pub stands_at : (to : ℕ) {r : ℕ} {after : List ℕ} → at ≡ to → r ≡ found → after ≡ positions → StandsBefore w lo hi start bs before to r after
  stands_at to {r} {after} there count list =
      rw (← there, count, list) here

-- ---- the answer

pub kept_answer : {ids before : List ℕ} {r : ℕ} {after : List ℕ} → Kept 0 ids before r after → search (Ok r) after ≡ search (Ok (length ids)) (at_start ids before)
kept_answer {ids} {before} kept =
    ap₂ (λ n l. search (Ok n) l) (kept.count ∙ zero-add (length ids)) (kept.pasted ∙ paste_first ids before)
