-- The calls that change a store: what sealing one block in the part at the used offset comes to in the whole areas, and what adding and
-- flushing answer past each of their checks.
use Rattle.std.specs.Prelude.{Err, Result}
use mathlib.Core.Path.{◌≡◌, sym, ap, ap₂, ◌∙◌}
use mathlib.Core.Logic.{⊎_elim}
use mathlib.Core.Bool.{false, cond}
use mathlib.Core.List.{List, [], ◌∷◌, ◌++◌, append_assoc}
use Prim.Native.Nat.{ℕ, suc, ◌+◌, ◌-◌, ◌*◌, ◌^◌, ◌≤◌, ◌<◌}
use native.Mathlib.Numerals.{add-one}
use native.Mathlib.Omega.{arith}
use lib.Dec.{ltb}
use lib.ListN.{length, take, drop, set, drop_of_length-le}
use lib.Seq.{drop-drop, set_split, sets-eq}
use borrow.Author.Tests.{lt-ltb, le-ltb, le-leb, eq-eqb, ne_eqb}
use borrow.Rule.Slice.PartMut.{put_mid, put_same}
use Rattle.bit_rule.specs.Search.{at_start, pasted_at}
use Rattle.bit_rule.proofs.Parts.{rest_from, rest_from_is, length-rest_from, put_rest}
use Rattle.bit_rule.proofs.Width.{le_or_lt, legal_le, width_of_legal}
use Rattle.refusal.specs.declared.Refusal.{Refusal}
use Rattle.refusal.specs.declared.Refusal.TheVariants.{NoRoom, EntriesFull}
use Rattle.refusal.specs.Done.{done}
use Rattle.block.specs.Block.{base_of, block_width, block_size, block_bytes, eight_zeros, entry_words}
use Rattle.block.specs.Calls.{outcome, cleared_of, seal_of, sealed_as}
use Rattle.block.specs.declared.Sealed.{Sealed}
use Rattle.blocked_bitpacker.specs.declared.BlockedBitpacker.{BlockedBitpacker}
use Rattle.blocked_bitpacker.specs.Store.{block_limit, none_waiting, store_of, fresh_store, damaged_store}
use Rattle.blocked_bitpacker.specs.Calls.{made, new_of, changed, answered, refused_call, waiting_values, sealed, seal_or_refuse, waits, add_of, flush_of}
use Rattle.blocked_bitpacker.specs.Parts.{Judged}

-- ---- making a store

pub made_fresh : (bytes : List ℕ) → 8 ≤ length bytes → (s : BlockedBitpacker) → s ≡ fresh_store → (after : List ℕ) → after ≡ cleared_of bytes
    → made (answered done s) after ≡ new_of bytes
unfolding new_of cleared_of
made_fresh bytes room s fresh after cleared =
    ap₂ (λ t l. made (answered done t) l) fresh (cleared ∙ ap (λ t. cond t (at_start eight_zeros bytes) bytes) (le-leb 8 (length bytes) room))
    ∙ sym (simp (le-ltb (length bytes) 8 room))

-- ---- sealing one block: by room

pub block_narrow : (vs : List ℕ) → block_width vs ≤ 64
unfolding block_width
block_narrow vs = legal_le _ (width_of_legal _)

-- What sealing in a part answered, told by its room.
pub record SealedIn (vs part : List ℕ) (base width size : ℕ) (after : List ℕ) : Type 0 where
  pub base_is : base ≡ base_of vs
  pub width_is : width ≡ block_width vs
  pub size_is : size ≡ block_size vs
  pub room : block_size vs + 8 ≤ length part
  pub bytes_are : after ≡ at_start (block_bytes vs ++ eight_zeros) part

roomy : (vs part : List ℕ) → block_size vs + 8 ≤ length part
    → seal_of vs part ≡ outcome (sealed_as (base_of vs) (block_width vs) (block_size vs)) (at_start (block_bytes vs ++ eight_zeros) part)
unfolding seal_of
roomy vs part room = simp (le-ltb (length part) (block_size vs + 8) room)

tight : (vs part : List ℕ) → length part < block_size vs + 8 → seal_of vs part ≡ outcome (Err NoRoom) part
unfolding seal_of
tight vs part short = simp (lt-ltb (length part) (block_size vs + 8) short)

pub sealed_in : (vs part : List ℕ) (base width size : ℕ) (r : Result Sealed Refusal) (after : List ℕ) → outcome r after ≡ seal_of vs part → r ≡ sealed_as base width size
    → SealedIn vs part base width size after
sealed_in vs part base width size r after ensured is =
    ⊎_elim
    (λ room.
    let e = ensured ∙ roomy vs part room in
    let answer : sealed_as base width size ≡ sealed_as (base_of vs) (block_width vs) (block_size vs) = sym is ∙ ap (λ o. o.answer) e in
    let both :
    ◌≡◌ {A = Sealed} (record { base = base; width = width; size = size }) (record { base = base_of vs; width = block_width vs; size = block_size vs }) = cc in
    let b : base ≡ base_of vs = ap (λ s. s.base) both in
    let w : width ≡ block_width vs = ap (λ s. s.width) both in
    let n : size ≡ block_size vs = ap (λ s. s.size) both in
    record { base_is = b; width_is = w; size_is = n; room = room; bytes_are = ap (λ o. o.bytes) e })
    (λ short.
    let answer = sym is ∙ ap (λ o. o.answer) (ensured ∙ tight vs part short) in
    let never : ◌≡◌ {A = ℕ} 0 1 = cc in
    absurd (omega arith))
    (le_or_lt (block_size vs + 8) (length part))

-- A refusal is for room, and leaves the part.
pub record NotSealedIn (vs part : List ℕ) (why : Refusal) (after : List ℕ) : Type 0 where
  pub reason : why ≡ NoRoom
  pub short : length part < block_size vs + 8
  pub bytes_are : after ≡ part

pub not_sealed_in : (vs part : List ℕ) (why : Refusal) (r : Result Sealed Refusal) (after : List ℕ) → outcome r after ≡ seal_of vs part → r ≡ Err why → NotSealedIn vs part why after
not_sealed_in vs part why r after ensured is =
    ⊎_elim
    (λ room.
    let answer = sym is ∙ ap (λ o. o.answer) (ensured ∙ roomy vs part room) in
    let never : ◌≡◌ {A = ℕ} 0 1 = cc in
    absurd (omega arith))
    (λ short.
    let e = ensured ∙ tight vs part short in
    let answer : Err why ≡ Err NoRoom = sym is ∙ ap (λ o. o.answer) e in
    let reason : why ≡ NoRoom = cc in
    record { reason = reason; short = short; bytes_are = ap (λ o. o.bytes) e })
    (le_or_lt (block_size vs + 8) (length part))

-- ---- sealing behind the other blocks

-- a part that begins at a place, with other elements at its start, is the whole with them pasted there
pasted_part : (at : ℕ) (xs bytes : List ℕ) → at ≤ length bytes → put_mid at (length bytes - at) bytes (at_start xs (rest_from at bytes)) ≡ pasted_at at xs bytes
pasted_part at xs bytes within =
    put_rest at bytes (at_start xs (rest_from at bytes)) within
    ∙ ap (λ l. take at bytes ++ (xs ++ l)) (ap (drop (length xs)) (rest_from_is at bytes) ∙ drop-drop (length xs) at bytes)

-- two words stored one after the other
two_words : (at a b : ℕ) (words : List ℕ) → at + 2 ≤ length words → set (set words at a) (at + 1) b ≡ pasted_at at (a ∷ b ∷ []) words
two_words at a b words room =
    ap (λ k. set (set words at a) k b) (add-one at)
    ∙ sets-eq (a ∷ b ∷ []) words at room
    ∙ append_assoc (take at words) (a ∷ b ∷ []) (drop (at + 2) words)

module _ (s : BlockedBitpacker) (vs : List ℕ) (last : ℕ) (bytes entries : List ℕ) (ok : Judged s (length bytes) (length entries)) where
  pub past_the_limit : block_limit ≤ s.blocks → refused_call EntriesFull s bytes entries ≡ seal_or_refuse s vs last bytes entries
  unfolding seal_or_refuse
  past_the_limit full = simp (lt-ltb block_limit (s.blocks + 1) (omega arith))

  pub used_within : s.used ≤ length bytes
  used_within = omega (arith, ok.room)

  module _ (below : s.blocks < block_limit) where
    within_limit : ltb block_limit (s.blocks + 1) ≡ false
    within_limit = le-ltb block_limit (s.blocks + 1) (omega arith)

    pub past_the_words : length entries < 2 * s.blocks + 2 → refused_call EntriesFull s bytes entries ≡ seal_or_refuse s vs last bytes entries
    unfolding seal_or_refuse
    past_the_words short = simp (within_limit, lt-ltb (length entries) (2 * (s.blocks + 1)) (omega arith))

    module _ (words : 2 * s.blocks + 2 ≤ length entries) where
      within_words : ltb (length entries) (2 * (s.blocks + 1)) ≡ false
      within_words = le-ltb (length entries) (2 * (s.blocks + 1)) (omega arith)

      pub seal_without_room : (why : Refusal) (after : List ℕ) → NotSealedIn vs (rest_from s.used bytes) why after
          → changed (answered (Err why) s) (put_mid s.used (length bytes - s.used) bytes after) entries ≡ seal_or_refuse s vs last bytes entries
      unfolding seal_or_refuse
      seal_without_room why after refused =
          ap₂ (λ r l. changed (answered (Err r) s) (put_mid s.used (length bytes - s.used) bytes l) entries) refused.reason refused.bytes_are
          ∙ ap (λ l. refused_call NoRoom s l entries) (put_same s.used (length bytes - s.used) bytes)
          ∙ sym (simp (within_limit, within_words, lt-ltb (length bytes) (s.used + block_size vs + 8) (omega (arith, refused.short, length-rest_from s.used bytes, used_within))))

      pub seal_with_room : (base width size : ℕ) (after : List ℕ) → SealedIn vs (rest_from s.used bytes) base width size after
          → changed (answered done (store_of none_waiting (s.used + size) (s.blocks + 1) 0 last))
          (put_mid s.used (length bytes - s.used) bytes after)
          (set (set entries (2 * s.blocks) (s.used + width * 2 ^ 56)) (2 * s.blocks + 1) base)
          ≡ seal_or_refuse s vs last bytes entries
      unfolding seal_or_refuse sealed entry_words
      seal_with_room base width size after was_sealed =
          ap₂ (λ n l. changed (answered done (store_of none_waiting (s.used + n) (s.blocks + 1) 0 last)) l (set (set entries (2 * s.blocks) (s.used + width * 2 ^ 56)) (2 * s.blocks + 1) base))
          was_sealed.size_is
          (ap (put_mid s.used (length bytes - s.used) bytes) was_sealed.bytes_are ∙ pasted_part s.used (block_bytes vs ++ eight_zeros) bytes used_within)
          ∙ ap (λ l. changed (answered done (store_of none_waiting (s.used + block_size vs) (s.blocks + 1) 0 last)) (pasted_at s.used (block_bytes vs ++ eight_zeros) bytes) l)
          (two_words (2 * s.blocks) (s.used + width * 2 ^ 56) base entries words
          ∙ ap₂ (λ w b. pasted_at (2 * s.blocks) ((s.used + w * 2 ^ 56) ∷ b ∷ []) entries) was_sealed.width_is was_sealed.base_is)
          ∙ sym (simp (within_limit, within_words, le-ltb (length bytes) (s.used + block_size vs + 8) (omega (arith, was_sealed.room, length-rest_from s.used bytes, used_within))))

-- ---- adding and flushing, past their first checks

module _ (s : BlockedBitpacker) (bytes entries : List ℕ) (ok : damaged_store s (length bytes) (length entries) ≡ false) where
  module _ (v : ℕ) (open-store : s.last_length ≤ 0) where
    -- an add that is not the 128th
    pub add_waits : s.waiting < 127 → changed (answered done (waits s v)) bytes entries ≡ add_of s v bytes entries
    unfolding add_of
    add_waits few = simp (ok, le-ltb 0 s.last_length open-store, ne_eqb s.waiting 127 (λ e. omega arith))

    -- the 128th
    pub add_seals : s.waiting ≡ 127 → length s.buffer ≡ 128 → seal_or_refuse s (set s.buffer s.waiting v) 0 bytes entries ≡ add_of s v bytes entries
    unfolding add_of seal_or_refuse
    add_seals full places =
        let values : set s.buffer s.waiting v ≡ waiting_values s ++ v ∷ [] =
        set_split s.buffer s.waiting v (omega arith)
        ∙ ap (λ l. take s.waiting s.buffer ++ v ∷ l) (drop_of_length-le s.buffer {i = suc s.waiting} (omega arith)) in
        ap (λ vs. seal_or_refuse s vs 0 bytes entries) values
        ∙ sym (simp (ok, le-ltb 0 s.last_length open-store, eq-eqb s.waiting 127 full))

  pub flush_seals : (s.waiting ≡ 0 → ⊥) → seal_or_refuse s (waiting_values s) s.waiting bytes entries ≡ flush_of s bytes entries
  unfolding flush_of seal_or_refuse
  flush_seals some = sym (simp (ok, ne_eqb s.waiting 0 some))
