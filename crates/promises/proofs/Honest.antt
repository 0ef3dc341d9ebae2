-- The store that accepted values define is not damaged in its areas, no entry of it is, its count is theirs, and each index gives its value: in
-- a block by the block's laws, and among the values that wait by the place in the array.
use mathlib.Core.Path.{◌≡◌, refl, sym, ap, ap₂, ◌∙◌}
use mathlib.Core.Logic.{◌⊎◌, inl, inr, ⊎_elim}
use mathlib.Core.Bool.{Bool, true, false, ◌||◌, ◌&&◌, cond}
use mathlib.Core.List.{List, ◌++◌, append_assoc}
use Prim.Native.Nat.{ℕ, zero, suc, ◌+◌, ◌-◌, ◌*◌, ◌/◌, ◌%◌, ◌^◌, ◌≤◌, ◌<◌, min}
use native.Mathlib.Omega.{arith}
use lib.Dec.{ltb, eqb}
use lib.ListN.{length, get_or, drop, length-append, length-drop, get_or-append}
use lib.Seq.{ext_get_or, drop_at, get_or-drop, get_or-take, length-take-le}
use borrow.Author.Tests.{lt-ltb, le-ltb, ne_eqb, eqb-true, eqb-false}
use Rattle.bit_rule.specs.Search.{at_start}
use Rattle.bit_rule.proofs.Search.{length-at_start}
use Rattle.bit_rule.proofs.Width.{le_or_lt}
use Rattle.block.specs.Block.{block_bytes, eight_zeros, entry_words, words_per_entry, damaged_entry, block_value}
use Rattle.block.proofs.BlockLaws.{AreWords, entry_fine, value_back}
use Rattle.blocked_bitpacker.specs.declared.BlockedBitpacker.{BlockedBitpacker}
use Rattle.blocked_bitpacker.specs.Store.{block_limit, none_waiting, is_closed, damaged_store, count_of, length_of_block, in_block, value_of, values_of, damaged_blocks, touched_damaged}
use Rattle.blocked_bitpacker.proofs.Values.{length-values_of, get_or-values_of}
use Rattle.promises.specs.Column.{stretch}
use Rattle.promises.specs.Defined.{blocks_by, block_at, used_by, bytes_by, entries_by, waiting_by, last_length_by, store_by}
use Rattle.promises.proofs.Cutting.{block_at_short, length_whole, length_rest, get_or-block_at, block_at_words, length-bytes_by, length-entries_by, used_by-le, used_within, bytes_around, entries_around}

-- Values whose store fits two areas.
pub record Fits (vs : List ℕ) (closed : Bool) (bytes entries : List ℕ) : Type 0 where
  pub words : AreWords vs
  pub limit : blocks_by vs closed ≤ block_limit
  pub room : used_by vs (blocks_by vs closed) + 8 ≤ length bytes
  pub entry_room : blocks_by vs closed * words_per_entry ≤ length entries
  -- a closed store's last block is short
  pub short : closed ≡ true → 0 < length vs % 128

module _ (vs : List ℕ) (closed : Bool) (bytes₀ entries₀ : List ℕ) (fits : Fits vs closed bytes₀ entries₀) where
  abbrev s : BlockedBitpacker
  s = store_by vs closed

  abbrev n : ℕ
  n = blocks_by vs closed

  abbrev bytes : List ℕ
  bytes = at_start (bytes_by vs n ++ eight_zeros) bytes₀

  abbrev entries : List ℕ
  entries = at_start (entries_by vs n) entries₀

  length_written : length (bytes_by vs n ++ eight_zeros) ≡ used_by vs n + 8
  length_written = length-append (bytes_by vs n) eight_zeros ∙ ap (λ m. m + 8) (length-bytes_by vs n)

  pub same_bytes : length bytes ≡ length bytes₀
  same_bytes = length-at_start (bytes_by vs n ++ eight_zeros) bytes₀ (omega (arith, length_written, fits.room))

  pub same_entries : length entries ≡ length entries₀
  same_entries = length-at_start (entries_by vs n) entries₀ (omega (arith, length-entries_by vs n, fits.entry_room))

  -- ---- the counts

  few_waiting : length (waiting_by vs closed) ≤ 127
  few_waiting = by_flag closed
    where
      by_flag : (c : Bool) → length (waiting_by vs c) ≤ 127
      by_flag true = omega arith
      by_flag false = omega (arith, length-drop (128 * (length vs / 128)) vs)

  few_last : last_length_by vs closed ≤ 127
  few_last = by_flag closed
    where
      by_flag : (c : Bool) → last_length_by vs c ≤ 127
      by_flag true = omega arith
      by_flag false = omega arith

  closed_alone : (ltb 0 (last_length_by vs closed) && (ltb 0 (length (waiting_by vs closed)) || eqb n 0)) ≡ false
  closed_alone = by_flag closed fits.short
    where
      by_flag : (c : Bool) → (c ≡ true → 0 < length vs % 128)
          → (ltb 0 (last_length_by vs c) && (ltb 0 (length (waiting_by vs c)) || eqb (blocks_by vs c) 0)) ≡ false
      by_flag true short = simp (ne_eqb ((length vs + 127) / 128) 0 (λ none. omega (arith, short refl))) (all_false (ltb 0 (length vs % 128)))
        where
          all_false : (b : Bool) → (b && false) ≡ false
          all_false true = refl
          all_false false = refl
      by_flag false short = refl

  pub not_damaged : damaged_store s (length bytes) (length entries) ≡ false
  unfolding damaged_store store_by
  not_damaged =
      simp
      (le-ltb 127 (length (waiting_by vs closed)) few_waiting, le-ltb block_limit n fits.limit, le-ltb (1024 * n) (used_by vs n) (used_by-le vs n), le-ltb (length bytes) (used_by vs n + 8) (omega (arith, same_bytes, fits.room)), le-ltb (length entries) (words_per_entry * n) (omega (arith, same_entries, fits.entry_room)), le-ltb 127 (last_length_by vs closed) few_last)
      closed_alone

  pub flag_is : is_closed s ≡ closed
  unfolding store_by
  flag_is = by_flag closed fits.short
    where
      by_flag : (c : Bool) → (c ≡ true → 0 < length vs % 128) → ltb 0 (last_length_by vs c) ≡ c
      by_flag true short = lt-ltb 0 (length vs % 128) (short refl)
      by_flag false short = refl

  pub count_is : count_of s ≡ length vs
  unfolding count_of store_by
  count_is = ap (λ c. cond c (128 * (n - 1) + last_length_by vs closed) (128 * n + length (waiting_by vs closed))) flag_is ∙ by_flag closed fits.short
    where
      by_flag : (c : Bool) → (c ≡ true → 0 < length vs % 128)
          → cond c (128 * (blocks_by vs c - 1) + last_length_by vs c) (128 * blocks_by vs c + length (waiting_by vs c)) ≡ length vs
      by_flag true short = omega (arith, short refl)
      by_flag false short = omega (arith, length-drop (128 * (length vs / 128)) vs)

  -- ---- a block

  -- how many values it holds
  block_length : (k : ℕ) → k < n → length_of_block s k ≡ length (block_at vs k)
  unfolding length_of_block store_by
  block_length k below =
      ap (λ c. cond (c && eqb (k + 1) n) (last_length_by vs closed) 128) flag_is ∙ by_flag closed (eqb (k + 1) n) refl below fits.short
    where
      by_flag : (c last : Bool) → eqb (k + 1) (blocks_by vs c) ≡ last → k < blocks_by vs c → (c ≡ true → 0 < length vs % 128)
          → cond (c && last) (last_length_by vs c) 128 ≡ length (block_at vs k)
      by_flag true true is inside short =
          let end = eqb-true (k + 1) ((length vs + 127) / 128) is in
          let some = short refl in
          omega (arith, length_rest vs k (omega arith) (omega arith))
      by_flag true false is inside short = sym (length_whole vs k (let more = eqb-false (k + 1) ((length vs + 127) / 128) is in omega arith))
      by_flag false last is inside short = sym (length_whole vs k (omega arith))

  module _ (k : ℕ) (below : k < n) where
    -- its entry stands among the others, its bytes at its offset
    entries_split : (after : List ℕ) × (entries ≡ entries_by vs k ++ (entry_words (used_by vs k) (block_at vs k) ++ after))
    entries_split =
        let (rest, is) = entries_around vs n k below in
        let past = drop (length (entries_by vs n)) entries₀ in
        let words = entry_words (used_by vs k) (block_at vs k) in (
          rest ++ past,
          ap (λ l. l ++ past) is ∙ append_assoc (entries_by vs k) (words ++ rest) past ∙ ap (λ l. entries_by vs k ++ l) (append_assoc words rest past),
        )

    bytes_split : (after : List ℕ) × (drop (used_by vs k) bytes ≡ block_bytes (block_at vs k) ++ after)
    bytes_split =
        let (rest, is) = bytes_around vs n k below in
        let block = block_bytes (block_at vs k) in
        let past = drop (length (bytes_by vs n ++ eight_zeros)) bytes₀ in
        let after = rest ++ (eight_zeros ++ past) in
        let whole : bytes ≡ bytes_by vs k ++ (block ++ after) =
        append_assoc (bytes_by vs n) eight_zeros past
        ∙ ap (λ l. l ++ (eight_zeros ++ past)) is
        ∙ append_assoc (bytes_by vs k) (block ++ rest) (eight_zeros ++ past)
        ∙ ap (λ l. bytes_by vs k ++ l) (append_assoc block rest (eight_zeros ++ past)) in
        (after, ap (drop (used_by vs k)) whole ∙ drop_at (bytes_by vs k) (block ++ after) (used_by vs k) (length-bytes_by vs k))

    near : used_by vs k < 2 ^ 56
    near = omega (arith, used_by-le vs k, fits.limit)

    pub entry_is_fine : damaged_entry s.used (length_of_block s k) k entries ≡ false
    unfolding store_by
    entry_is_fine =
        let (after, is) = entries_split in
        ap (damaged_entry (used_by vs n) (length_of_block s k) k) is
        ∙ entry_fine k (used_by vs k) (block_at vs k) (entries_by vs k) after (length-entries_by vs k) near (used_by vs n) (length_of_block s k) (block_length k below) (used_within vs n k below)

    block_value_lem : (j : ℕ) → j < length (block_at vs k) → block_value k j bytes entries ≡ get_or vs (128 * k + j) 0
    block_value_lem j inside =
        let (after, is) = entries_split in
        let (rest, stand) = bytes_split in
        ap (block_value k j bytes) is
        ∙ value_back k (used_by vs k) (block_at vs k) (entries_by vs k) after (length-entries_by vs k) near bytes rest stand (block_at_words vs k fits.words) j inside
        ∙ get_or-block_at vs k j (omega (arith, block_at_short vs k))

  -- ---- the value at an index

  pub value_is : (i : ℕ) → i < length vs → value_of s bytes entries i ≡ get_or vs i 0
  unfolding value_of store_by
  value_is i inside = ⊎_elim waits sealed (le_or_lt n (i / 128))
    where
      waits : n ≤ i / 128 → cond (ltb (i / 128) n) (block_value (i / 128) (i % 128) bytes entries) (get_or (at_start (waiting_by vs closed) none_waiting) (i % 128) 0) ≡ get_or vs i 0
      waits behind =
          ap (λ b. cond b (block_value (i / 128) (i % 128) bytes entries) (get_or (at_start (waiting_by vs closed) none_waiting) (i % 128) 0)) (le-ltb (i / 128) n behind)
          ∙ by_flag closed behind
        where
          by_flag : (c : Bool) → blocks_by vs c ≤ i / 128 → get_or (at_start (waiting_by vs c) none_waiting) (i % 128) 0 ≡ get_or vs i 0
          by_flag true past = absurd (omega arith)
          by_flag false past =
              let at = 128 * (length vs / 128) in
              get_or-append (drop at vs) (drop (length (drop at vs)) none_waiting) 0 (i % 128) (omega (arith, length-drop at vs))
              ∙ get_or-drop at vs (i % 128) 0
              ∙ ap (λ m. get_or vs m 0) (omega arith)

      sealed : i / 128 < n → cond (ltb (i / 128) n) (block_value (i / 128) (i % 128) bytes entries) (get_or (at_start (waiting_by vs closed) none_waiting) (i % 128) 0) ≡ get_or vs i 0
      sealed below =
          ap (λ b. cond b (block_value (i / 128) (i % 128) bytes entries) (get_or (at_start (waiting_by vs closed) none_waiting) (i % 128) 0)) (lt-ltb (i / 128) n below)
          ∙ block_value_lem (i / 128) below (i % 128) (place_inside (le_or_lt (128 * (i / 128 + 1)) (length vs)))
          ∙ ap (λ m. get_or vs m 0) (omega arith)
        where
          place_inside : ((128 * (i / 128 + 1) ≤ length vs) ⊎ (length vs < 128 * (i / 128 + 1))) → i % 128 < length (block_at vs (i / 128))
          place_inside (inl whole) = omega (arith, length_whole vs (i / 128) whole)
          place_inside (inr rest) = omega (arith, length_rest vs (i / 128) (omega arith) rest)

  -- no read of one index touches a damaged entry
  pub index_fine : (i : ℕ) → (in_block s i && damaged_entry s.used (length_of_block s (i / 128)) (i / 128) entries) ≡ false
  unfolding store_by
  index_fine i =
      ⊎_elim (λ behind. ap (λ b. b && damaged_entry s.used (length_of_block s (i / 128)) (i / 128) entries) (le-ltb (i / 128) n behind))
      (λ below. ap₂ ◌&&◌ (lt-ltb (i / 128) n below) (entry_is_fine (i / 128) below)) (le_or_lt n (i / 128))

  -- ---- a stretch of indexes

  pub values_are : (start m : ℕ) → start + m ≤ length vs → values_of s bytes entries start m ≡ stretch start m vs
  values_are start m inside =
      ext_get_or 0 (values_of s bytes entries start m) (stretch start m vs)
      (length-values_of s bytes entries start m ∙ sym (length-take-le m (drop start vs) (omega (arith, length-drop start vs))))
      (λ j h.
      let below : j < m = omega (arith, length-values_of s bytes entries start m) in
      get_or-values_of s bytes entries start m j below
      ∙ value_is (start + j) (omega arith)
      ∙ sym (get_or-take m (drop start vs) j 0 below ∙ get_or-drop start vs j 0))

  -- none of the blocks from k on, up to the last
  blocks_fine : (k m : ℕ) → (0 < m → k + m ≤ n) → damaged_blocks s entries k m ≡ false
  unfolding damaged_blocks
  blocks_fine k zero inside = refl
  blocks_fine k (suc m) inside =
      let last = inside (omega arith) in
      ap₂ ◌||◌ (entry_is_fine k (omega arith)) (blocks_fine (k + 1) m (λ some. omega arith))

  pub untouched : (start end : ℕ) → touched_damaged s entries start end ≡ false
  unfolding touched_damaged store_by
  untouched start end = blocks_fine (start / 128) (min ((end + 127) / 128) n - start / 128) (λ some. omega arith)
