-- Values cut by 128: where a block's values lie in the list, that a block stays the same when values are added behind it, and where its bytes
-- and its entry stand among those of all blocks.
use mathlib.Core.Path.{◌≡◌, refl, sym, ap, ap₂, ◌∙◌, subst}
use mathlib.Core.Logic.{⊎_elim}
use mathlib.Core.List.{List, [], ◌∷◌, ◌++◌, append-nil, append_assoc}
use Prim.Native.Nat.{ℕ, zero, suc, ◌+◌, ◌-◌, ◌*◌, ◌^◌, ◌≤◌, ◌<◌}
use native.Mathlib.Nat.{le_refl}
use native.Mathlib.Numerals.{add-one}
use native.Mathlib.Omega.{arith}
use lib.ListN.{length, get_or, take, drop, length-append, length-take, length-drop}
use lib.Seq.{get_or-take, get_or-drop, take-append-le, drop-append-le}
use Rattle.bit_rule.proofs.Width.{le_or_lt}
use Rattle.block.specs.Block.{block_size, block_bytes, entry_words, words_per_entry}
use Rattle.block.proofs.BlockLaws.{AreWords, length-block_bytes, block_size-le}
use Rattle.promises.specs.Defined.{block_at, sum_of, in_order, used_by, bytes_by, entries_by}

-- ---- one block

pub block_at_short : (vs : List ℕ) (k : ℕ) → length (block_at vs k) ≤ 128
block_at_short vs k = omega (arith, length-take 128 (drop (128 * k) vs))

pub length_whole : (vs : List ℕ) (k : ℕ) → 128 * (k + 1) ≤ length vs → length (block_at vs k) ≡ 128
length_whole vs k whole = omega (arith, length-take 128 (drop (128 * k) vs), length-drop (128 * k) vs)

pub length_rest : (vs : List ℕ) (k : ℕ) → 128 * k ≤ length vs → length vs < 128 * (k + 1) → length (block_at vs k) ≡ length vs - 128 * k
length_rest vs k from to = omega (arith, length-take 128 (drop (128 * k) vs), length-drop (128 * k) vs)

pub get_or-block_at : (vs : List ℕ) (k j : ℕ) → j < 128 → get_or (block_at vs k) j 0 ≡ get_or vs (128 * k + j) 0
get_or-block_at vs k j below = get_or-take 128 (drop (128 * k) vs) j 0 below ∙ get_or-drop (128 * k) vs j 0

pub block_at_words : (vs : List ℕ) (k : ℕ) → AreWords vs → AreWords (block_at vs k)
block_at_words vs k words = take_words 128 (drop (128 * k) vs) (λ i. subst (λ n. n < 2 ^ 64) (sym (get_or-drop (128 * k) vs i 0)) (words (128 * k + i)))
  where
    take_words : (n : ℕ) (us : List ℕ) → AreWords us → AreWords (take n us)
    take_words zero us are i = omega arith
    take_words (suc n) [] are i = omega arith
    take_words (suc n) (u ∷ us) are zero = are 0
    take_words (suc n) (u ∷ us) are (suc i) = take_words n us (λ j. are (suc j)) i

-- values behind a block change nothing in it
pub block_at-append : (vs us : List ℕ) (k : ℕ) → 128 * (k + 1) ≤ length vs → block_at (vs ++ us) k ≡ block_at vs k
block_at-append vs us k whole =
    ap (take 128) (drop-append-le (128 * k) vs us (omega arith))
    ∙ take-append-le 128 (drop (128 * k) vs) us (omega (arith, length-drop (128 * k) vs))

-- ---- parts one after the other

in_order_same : (f g : ℕ → List ℕ) (n : ℕ) → ((k : ℕ) → k < n → f k ≡ g k) → in_order f n ≡ in_order g n
unfolding in_order
in_order_same f g zero same = refl
in_order_same f g (suc n) same = ap₂ ◌++◌ (in_order_same f g n (λ k below. same k (omega arith))) (same n (omega arith))

-- part k has the parts before it in front, and the later ones behind
in_order_around : (f : ℕ → List ℕ) (n k : ℕ) → k < n → (rest : List ℕ) × (in_order f n ≡ in_order f k ++ (f k ++ rest))
unfolding in_order
in_order_around f zero k below = absurd (omega arith)
in_order_around f (suc n) k below =
    ⊎_elim
    (λ last.
    let same : n ≡ k = omega arith in
    ([], ap₂ ◌++◌ (ap (in_order f) same) (ap f same ∙ sym (append-nil (f k)))))
    (λ earlier.
    let (rest, is) = in_order_around f n k earlier in
    (rest ++ f n, ap (λ l. l ++ f n) is ∙ append_assoc (in_order f k) (f k ++ rest) (f n) ∙ ap (λ l. in_order f k ++ l) (append_assoc (f k) rest (f n))))
    (le_or_lt n k)

-- ---- the first n blocks

-- one block more
pub used_by_next : (vs : List ℕ) (n : ℕ) → used_by vs (n + 1) ≡ used_by vs n + block_size (block_at vs n)
unfolding used_by sum_of
used_by_next vs n = ap (used_by vs) (add-one n)

pub bytes_by_next : (vs : List ℕ) (n : ℕ) → bytes_by vs (n + 1) ≡ bytes_by vs n ++ block_bytes (block_at vs n)
unfolding bytes_by in_order
bytes_by_next vs n = ap (bytes_by vs) (add-one n)

pub entries_by_next : (vs : List ℕ) (n : ℕ) → entries_by vs (n + 1) ≡ entries_by vs n ++ entry_words (used_by vs n) (block_at vs n)
unfolding entries_by in_order
entries_by_next vs n = ap (entries_by vs) (add-one n)

pub bytes_by_none : (vs : List ℕ) → bytes_by vs 0 ≡ []
unfolding bytes_by in_order
bytes_by_none vs = refl

pub entries_by_none : (vs : List ℕ) → entries_by vs 0 ≡ []
unfolding entries_by in_order
entries_by_none vs = refl

pub used_by_none : (vs : List ℕ) → used_by vs 0 ≡ 0
unfolding used_by sum_of
used_by_none vs = refl

-- they stay when values come behind them
module _ (vs us : List ℕ) where
  pub used_by-append : (n : ℕ) → 128 * n ≤ length vs → used_by (vs ++ us) n ≡ used_by vs n
  unfolding used_by sum_of
  used_by-append zero whole = refl
  used_by-append (suc n) whole = ap₂ ◌+◌ (used_by-append n (omega arith)) (ap block_size (block_at-append vs us n (omega arith)))

  pub bytes_by-append : (n : ℕ) → 128 * n ≤ length vs → bytes_by (vs ++ us) n ≡ bytes_by vs n
  unfolding bytes_by
  bytes_by-append n whole = in_order_same _ _ n (λ k below. ap block_bytes (block_at-append vs us k (omega arith)))

  pub entries_by-append : (n : ℕ) → 128 * n ≤ length vs → entries_by (vs ++ us) n ≡ entries_by vs n
  unfolding entries_by
  entries_by-append n whole =
      in_order_same _ _ n (λ k below. ap₂ entry_words (used_by-append k (omega arith)) (block_at-append vs us k (omega arith)))

module _ (vs : List ℕ) where
  pub length-bytes_by : (n : ℕ) → length (bytes_by vs n) ≡ used_by vs n
  unfolding bytes_by in_order used_by sum_of
  length-bytes_by zero = refl
  length-bytes_by (suc n) =
      length-append (bytes_by vs n) (block_bytes (block_at vs n)) ∙ ap₂ ◌+◌ (length-bytes_by n) (length-block_bytes (block_at vs n))

  pub length-entries_by : (n : ℕ) → length (entries_by vs n) ≡ n * words_per_entry
  unfolding entries_by in_order entry_words
  length-entries_by zero = refl
  length-entries_by (suc n) =
      length-append (entries_by vs n) (entry_words (used_by vs n) (block_at vs n)) ∙ omega (arith, length-entries_by n)

  -- "used > 1,024 * blocks" is never so
  pub used_by-le : (n : ℕ) → used_by vs n ≤ 1024 * n
  unfolding used_by sum_of
  used_by-le zero = le_refl 0
  used_by-le (suc n) = omega (arith, used_by-le n, block_size-le (block_at vs n) (block_at_short vs n))

  -- block k ends within the used bytes
  pub used_within : (n k : ℕ) → k < n → used_by vs k + block_size (block_at vs k) ≤ used_by vs n
  unfolding used_by sum_of
  used_within zero k below = absurd (omega arith)
  used_within (suc n) k below =
      ⊎_elim
      (λ last. let same : n ≡ k = omega arith in subst (λ m. used_by vs k + block_size (block_at vs k) ≤ used_by vs m + block_size (block_at vs m)) (sym same) (le_refl _))
      (λ earlier. omega (arith, used_within n k earlier)) (le_or_lt n k)

  -- its bytes and its entry stand behind those of the blocks before it
  pub bytes_around : (n k : ℕ) → k < n → (rest : List ℕ) × (bytes_by vs n ≡ bytes_by vs k ++ (block_bytes (block_at vs k) ++ rest))
  unfolding bytes_by
  bytes_around n k below = in_order_around _ n k below

  pub entries_around : (n k : ℕ) → k < n → (rest : List ℕ) × (entries_by vs n ≡ entries_by vs k ++ (entry_words (used_by vs k) (block_at vs k) ++ rest))
  unfolding entries_by
  entries_around n k below = in_order_around _ n k below
