-- The search of a store: the ids of one stretch after the other are those of the range, and ids that were put at the start of the rest of the
-- positions stand behind those that were found before.
use mathlib.Core.Path.{◌≡◌, sym, ap, ap₂, ◌∙◌}
use mathlib.Core.List.{List, [], ◌∷◌, ◌++◌}
use Prim.Native.Nat.{ℕ, ◌+◌, ◌-◌, ◌^◌, ◌≤◌, ◌<◌}
use native.Mathlib.Nat.{zero-add}
use native.Mathlib.Numerals.{add-one}
use native.Mathlib.Omega.{arith}
use lib.ListN.{length, get_or, take, drop}
use lib.Seq.{take-suc, take_all, drop-drop}
use borrow.Rule.Slice.PartMut.{put_mid}
use Rattle.bit_rule.specs.Search.{matching_ids, at_start}
use Rattle.bit_rule.proofs.Search.{Searched, matching_le, matching_append, paste_first}
use Rattle.bit_rule.proofs.Parts.{rest_from, rest_from_is, put_rest}
use Rattle.bitunpacker.specs.Parts.{Kept}
use Rattle.blocked_bitpacker.specs.declared.BlockedBitpacker.{BlockedBitpacker}
use Rattle.blocked_bitpacker.specs.Store.{values_of}
use Rattle.blocked_bitpacker.specs.Calls.{ids_of}
use Rattle.blocked_bitpacker.proofs.Values.{length-values_of, values_of-add}

-- ---- one value after the other

pub take_next : (vs : List ℕ) (i : ℕ) → i < length vs → take (i + 1) vs ≡ take i vs ++ get_or vs i 0 ∷ []
take_next vs i more = ap (λ n. take n vs) (add-one i) ∙ take-suc vs i 0 more

-- past all values the ids are kept
pub all_searched : {lo hi first found : ℕ} {positions₀ positions : List ℕ} (vs : List ℕ) (i : ℕ)
    → Searched lo hi first (take i vs) positions₀ found positions → length vs ≤ i → Kept 0 (matching_ids lo hi first vs) positions₀ found positions
all_searched {lo} {hi} {first} {positions₀} vs i here done =
    let ids = matching_ids lo hi first vs in
    let all : matching_ids lo hi first (take i vs) ≡ ids = ap (matching_ids lo hi first) (take_all i vs done) in
    record {
      count = here.counted ∙ ap length all ∙ sym (zero-add (length ids));
      pasted = here.stored ∙ ap (λ l. at_start l positions₀) all ∙ sym (paste_first ids positions₀);
    }

-- ---- one stretch after the other

module _ (s : BlockedBitpacker) (lo hi : ℕ) (bytes entries : List ℕ) where
  -- there are no more ids than indexes
  pub kept_few : {before : List ℕ} {r : ℕ} {after : List ℕ} (from to : ℕ) → Kept 0 (ids_of s lo hi from to bytes entries) before r after → r ≤ to - from
  unfolding ids_of
  kept_few from to kept =
      let values = values_of s bytes entries from (to - from) in
      omega (arith, kept.count, matching_le lo hi from values, length-values_of s bytes entries from (to - from))

  pub stretch_few : {before : List ℕ} {r : ℕ} {after : List ℕ} (from n : ℕ)
      → Kept 0 (ids_of s lo hi from (from + n) bytes entries) before r after → r ≤ n
  stretch_few from n kept = omega (arith, kept_few from (from + n) kept)

  -- the ids of a stretch and of the next are those of both
  pub ids_add : (from mid to : ℕ) → from ≤ mid → mid ≤ to
      → ids_of s lo hi from mid bytes entries ++ ids_of s lo hi mid to bytes entries ≡ ids_of s lo hi from to bytes entries
  unfolding ids_of
  ids_add from mid to first second =
      let values = values_of s bytes entries in
      let us = values from (mid - from) in
      let there : from + (mid - from) ≡ mid = omega arith in
      let all : to - from ≡ mid - from + (to - mid) = omega arith in
      sym
      (ap (λ n. matching_ids lo hi from (values from n)) all
      ∙ ap (matching_ids lo hi from) (values_of-add s bytes entries from (mid - from) (to - mid))
      ∙ matching_append lo hi from us (values (from + (mid - from)) (to - mid))
      ∙ ap₂ (λ id k. matching_ids lo hi from us ++ matching_ids lo hi id (values k (to - mid)))
      (ap (λ n. from + n) (length-values_of s bytes entries from (mid - from)) ∙ there) there)

  pub ids_none : (from to : ℕ) → to ≡ from → ids_of s lo hi from to bytes entries ≡ []
  unfolding ids_of values_of matching_ids
  ids_none from to none =
      let empty : to - from ≡ 0 = omega arith in
      ap (λ n. matching_ids lo hi from (values_of s bytes entries from n)) empty

  -- the ids of so many values
  pub ids_of_lem : (from n : ℕ) → matching_ids lo hi from (values_of s bytes entries from n) ≡ ids_of s lo hi from (from + n) bytes entries
  unfolding ids_of
  ids_of_lem from n = ap (λ m. matching_ids lo hi from (values_of s bytes entries from m)) (omega arith)

-- ids at the start of the rest of the positions stand behind those found before
pub kept_behind : {found r : ℕ} {ids positions ys : List ℕ} → found ≤ length positions → Kept 0 ids (rest_from found positions) r ys
    → Kept found ids positions (found + r) (put_mid found (length positions - found) positions ys)
kept_behind {found} {ids} {positions} {ys} within kept =
    let n = length ids in
    let rest : drop n (rest_from found positions) ≡ drop (found + n) positions =
    ap (drop n) (rest_from_is found positions) ∙ drop-drop n found positions in
    record {
      count = ap (λ k. found + k) (kept.count ∙ zero-add n);
      pasted = put_rest found positions ys within
          ∙ ap (λ l. take found positions ++ l) (kept.pasted ∙ paste_first ids (rest_from found positions) ∙ ap (λ l. ids ++ l) rest);
    }

-- a number of ids and a stretch more
pub still_fits : {found more : ℕ} → found < 2 ^ 32 → more ≤ 128 → found + more < 2 ^ 64
still_fits few short = omega arith
