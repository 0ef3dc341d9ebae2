-- Room changes nothing: a call that the shorter areas do not refuse for room is answered the same with longer ones (`more_room`), so the two
-- runs accept the same values, call by call, up to the first refusal for room.
use mathlib.Core.Path.{◌≡◌, refl, sym, ap, ap₂, ◌∙◌, subst}
use mathlib.Core.Bool.{Bool, true, false, ◌||◌, ◌&&◌, cond}
use mathlib.Core.List.{List, [], ◌∷◌, ◌++◌, append_assoc}
use Prim.Native.Nat.{ℕ, suc, ◌+◌, ◌*◌, ◌/◌, ◌%◌, ◌≤◌}
use native.Mathlib.Omega.{arith}
use lib.Dec.{ltb, eqb}
use lib.ListN.{length, take, drop}
use lib.Seq.{take_at}
use borrow.Author.Tests.{le-ltb, ltb-false}
use Rattle.bit_rule.specs.Search.{at_start}
use Rattle.block.specs.Block.{block_size, eight_zeros, words_per_entry}
use Rattle.blocked_bitpacker.specs.Store.{block_limit}
use Rattle.blocked_bitpacker.proofs.Judged.{neither}
use Rattle.promises.specs.Reply.{Reply, values, refusal}
use Rattle.promises.specs.Defined.{Held, blocks_by, block_at, used_by, bytes_by, entries_by, waiting_by, store_by, held_by}
use Rattle.promises.specs.Histories.{Call, add, flush, count, get, range, search, outcome_of, left_by, after, answers, taken, closing, WordsAdded}
use Rattle.promises.specs.Paper.{no_entry, no_space, add_reply, flush_reply, says, paper_answer}
use Rattle.promises.specs.Promises.{for_room, before_room, SameContents}
use Rattle.promises.proofs.Cutting.{length-bytes_by, length-entries_by}
use Rattle.promises.proofs.Honest.{Fits}
use Rattle.promises.proofs.Histories.{next, words_rest}

-- ---- one call

-- room that suffices still suffices when there is more
entry_stays : (n E₁ E₂ : ℕ) → E₁ ≤ E₂ → no_entry n E₁ ≡ false → no_entry n E₂ ≡ false
entry_stays n E₁ E₂ more there =
    let both = neither (ltb block_limit (n + 1)) (ltb E₁ (words_per_entry * (n + 1))) there in
    ap₂ ◌||◌ both.0 (le-ltb E₂ (words_per_entry * (n + 1)) (omega (arith, ltb-false E₁ (words_per_entry * (n + 1)) both.1)))

space_stays : (vs : List ℕ) (n B₁ B₂ : ℕ) → B₁ ≤ B₂ → no_space vs n B₁ ≡ false → no_space vs n B₂ ≡ false
space_stays vs n B₁ B₂ more there =
    le-ltb B₂ (used_by vs n + block_size (block_at vs n) + 8) (omega (arith, ltb-false B₁ (used_by vs n + block_size (block_at vs n) + 8) there))

-- a test joined to the same condition
and_stays : (c a b : Bool) → (a ≡ false → b ≡ false) → (c && a) ≡ false → (c && b) ≡ false
and_stays true a b stays is = stays is
and_stays false a b stays is = refl

-- Two tests for room, each with its refusal, in front of an answer: where the answer is not for room, neither holds.
neither_refuses : (e r : Bool) (done : Reply) → for_room (cond e (refusal 5) (cond r (refusal 4) done)) ≡ false → (e ≡ false) × (r ≡ false)
neither_refuses true r done is = absurd (let z : ◌≡◌ {A = ℕ} 0 1 = cc in omega arith)
neither_refuses false true done is = absurd (let z : ◌≡◌ {A = ℕ} 0 1 = cc in omega arith)
neither_refuses false false done is = (refl, refl)

two_tests : (e₁ r₁ e₂ r₂ : Bool) (done : Reply) → (e₁ ≡ false → e₂ ≡ false) → (r₁ ≡ false → r₂ ≡ false)
    → for_room (cond e₁ (refusal 5) (cond r₁ (refusal 4) done)) ≡ false
    → cond e₂ (refusal 5) (cond r₂ (refusal 4) done) ≡ cond e₁ (refusal 5) (cond r₁ (refusal 4) done)
two_tests e₁ r₁ e₂ r₂ done e-stays r-stays is =
    let none = neither_refuses e₁ r₁ done is in
    ap₂ (λ e r. cond e (refusal 5) (cond r (refusal 4) done)) (e-stays none.0 ∙ sym none.0) (r-stays none.1 ∙ sym none.1)

module _ (B₁ E₁ B₂ E₂ : ℕ) (bytes-more : B₁ ≤ B₂) (entries-more : E₁ ≤ E₂) (vs : List ℕ) where
  add_same : (closed : Bool) (v : ℕ) → for_room (add_reply vs closed B₁ E₁ v) ≡ false → add_reply vs closed B₂ E₂ v ≡ add_reply vs closed B₁ E₁ v
  unfolding add_reply
  add_same true v is = refl
  add_same false v is =
      let n = length vs / 128 in
      let seals = eqb (length vs % 128) 127 in
      let more = vs ++ v ∷ [] in
      two_tests (seals && no_entry n E₁) (seals && no_space more n B₁) (seals && no_entry n E₂) (seals && no_space more n B₂) (values [])
      (and_stays seals (no_entry n E₁) (no_entry n E₂) (entry_stays n E₁ E₂ entries-more))
      (and_stays seals (no_space more n B₁) (no_space more n B₂) (space_stays more n B₁ B₂ bytes-more)) is

  flush_same : (closed : Bool) → for_room (flush_reply vs closed B₁ E₁) ≡ false → flush_reply vs closed B₂ E₂ ≡ flush_reply vs closed B₁ E₁
  unfolding flush_reply
  flush_same closed is = by_nothing (closed || eqb (length vs % 128) 0) is
    where
      n : ℕ
      n = length vs / 128

      by_nothing : (t : Bool)
          → for_room (cond t (values []) (cond (no_entry n E₁) (refusal 5) (cond (no_space vs n B₁) (refusal 4) (values [])))) ≡ false
          → cond t (values []) (cond (no_entry n E₂) (refusal 5) (cond (no_space vs n B₂) (refusal 4) (values [])))
          ≡ cond t (values []) (cond (no_entry n E₁) (refusal 5) (cond (no_space vs n B₁) (refusal 4) (values [])))
      by_nothing true h = refl
      by_nothing false h =
          two_tests (no_entry n E₁) (no_space vs n B₁) (no_entry n E₂) (no_space vs n B₂) (values []) (entry_stays n E₁ E₂ entries-more)
          (space_stays vs n B₁ B₂ bytes-more) h

  more_room : (c : Call) (closed : Bool) → for_room (paper_answer c vs closed B₁ E₁).reply ≡ false → paper_answer c vs closed B₂ E₂ ≡ paper_answer c vs closed B₁ E₁
  unfolding paper_answer
  more_room (add v) closed is = ap says (add_same closed v is)
  more_room flush closed is = ap says (flush_same closed is)
  more_room count closed is = refl
  more_room (get i) closed is = refl
  more_room (range start out) closed is = refl
  more_room (search lo hi start end positions) closed is = refl

-- ---- what the two hold

same_contents : (vs : List ℕ) (closed : Bool) (bytes entries longerBytes longerEntries : List ℕ)
    → SameContents (held_by vs closed bytes entries) (held_by vs closed longerBytes longerEntries)
unfolding held_by store_by
same_contents vs closed bytes entries longerBytes longerEntries =
    let n = blocks_by vs closed in
    let first : (area : List ℕ) → take (used_by vs n) (at_start (bytes_by vs n ++ eight_zeros) area) ≡ bytes_by vs n =
    λ area. ap (take (used_by vs n)) (append_assoc (bytes_by vs n) eight_zeros (drop (length (bytes_by vs n ++ eight_zeros)) area))
    ∙ take_at (bytes_by vs n) (eight_zeros ++ drop (length (bytes_by vs n ++ eight_zeros)) area) (used_by vs n) (length-bytes_by vs n) in
    let words : (area : List ℕ) → take (words_per_entry * n) (at_start (entries_by vs n) area) ≡ entries_by vs n =
    λ area. take_at (entries_by vs n) (drop (length (entries_by vs n)) area) (words_per_entry * n) (omega (arith, length-entries_by vs n)) in
    record { store = refl; packed = first bytes ∙ sym (first longerBytes); entries = words entries ∙ sym (words longerEntries) }

-- ---- two runs

-- Up to the first refusal for room of the first run.
pub record SameUntilRoom (calls : List Call) (h k : Held) : Type 0 where
  pub same_answers : take (before_room (answers calls h)) (answers calls h) ≡ take (before_room (answers calls h)) (answers calls k)
  pub same_held : SameContents (after (take (before_room (answers calls h)) calls) h) (after (take (before_room (answers calls h)) calls) k)

module _ (c : Call) (cs : List Call) (h k : Held) where
  -- the first call is refused for room: nothing is compared but what is held
  stops : for_room (outcome_of c h).answer.reply ≡ true → SameContents h k → SameUntilRoom (c ∷ cs) h k
  unfolding answers after before_room
  stops refused same =
      let none : before_room (answers (c ∷ cs) h) ≡ 0 = ap (λ t. cond t 0 (suc (before_room (answers cs (left_by c h))))) refused in
      record {
        same_answers = subst (λ n. take n (answers (c ∷ cs) h) ≡ take n (answers (c ∷ cs) k)) (sym none) refl;
        same_held = subst (λ n. SameContents (after (take n (c ∷ cs)) h) (after (take n (c ∷ cs)) k)) (sym none) same;
      }

  -- it is not, and answered the same
  goes_on : for_room (outcome_of c h).answer.reply ≡ false → (outcome_of c h).answer ≡ (outcome_of c k).answer → SameUntilRoom cs (left_by c h) (left_by c k)
      → SameUntilRoom (c ∷ cs) h k
  unfolding answers after before_room
  goes_on not-refused same rest =
      let m = before_room (answers cs (left_by c h)) in
      let one_more : before_room (answers (c ∷ cs) h) ≡ suc m = ap (λ t. cond t 0 (suc m)) not-refused in
      record {
        same_answers = subst (λ n. take n (answers (c ∷ cs) h) ≡ take n (answers (c ∷ cs) k)) (sym one_more) (ap₂ (λ a l. a ∷ l) same rest.same_answers);
        same_held = subst (λ n. SameContents (after (take n (c ∷ cs)) h) (after (take n (c ∷ cs)) k)) (sym one_more) rest.same_held;
      }

module _ (bytes entries longerBytes longerEntries : List ℕ) (bytes-more : length bytes ≤ length longerBytes) (entries-more : length entries ≤ length longerEntries) where
  pub same_until_room : (calls : List Call) (vs : List ℕ) (closed : Bool) → WordsAdded calls → Fits vs closed bytes entries → Fits vs closed longerBytes longerEntries
      → SameUntilRoom calls (held_by vs closed bytes entries) (held_by vs closed longerBytes longerEntries)
  unfolding answers after before_room
  same_until_room [] vs closed words fits longer-fits =
      record { same_answers = refl; same_held = same_contents vs closed bytes entries longerBytes longerEntries }
  same_until_room (c ∷ cs) vs closed words fits longer-fits =
      let h = held_by vs closed bytes entries in
      let k = held_by vs closed longerBytes longerEntries in
      let step = next c cs vs closed bytes entries words fits in
      let longer = next c cs vs closed longerBytes longerEntries words longer-fits in
      let answer = ap (λ o. o.answer) step.comes_to in
      by_room (for_room (outcome_of c h).answer.reply) refl
      (λ not-refused.
      let same : paper_answer c vs closed (length longerBytes) (length longerEntries) ≡ paper_answer c vs closed (length bytes) (length entries) =
      more_room (length bytes) (length entries) (length longerBytes) (length longerEntries) bytes-more entries-more vs c closed
      (sym (ap (λ a. for_room a.reply) answer) ∙ not-refused) in
      let same-values : longer.vs' ≡ step.vs' = longer.grown ∙ ap (λ a. vs ++ taken c a.reply) same ∙ sym step.grown in
      let same_flag : longer.closed' ≡ step.closed' = longer.flag ∙ ap (λ a. closed || closing c a.reply (length (waiting_by vs closed))) same ∙ sym step.flag in
      let longer-left : left_by c k ≡ held_by step.vs' step.closed' longerBytes longerEntries =
      ap (λ o. o.left) longer.comes_to ∙ ap₂ (λ l b. held_by l b longerBytes longerEntries) same-values same_flag in
      let rest = same_until_room cs step.vs' step.closed' (words_rest c cs words) step.fits
      (subst (λ b. Fits step.vs' b longerBytes longerEntries) same_flag (subst (λ l. Fits l longer.closed' longerBytes longerEntries) same-values longer.fits)) in
      goes_on c cs h k not-refused (answer ∙ sym same ∙ sym (ap (λ o. o.answer) longer.comes_to))
      (subst (SameUntilRoom cs (left_by c h)) (sym longer-left) (subst (λ l. SameUntilRoom cs l (held_by step.vs' step.closed' longerBytes longerEntries)) (sym (ap (λ o. o.left) step.comes_to)) rest)))
    where
      by_room : (t : Bool) → for_room (outcome_of c (held_by vs closed bytes entries)).answer.reply ≡ t
          → (for_room (outcome_of c (held_by vs closed bytes entries)).answer.reply ≡ false → SameUntilRoom (c ∷ cs) (held_by vs closed bytes entries) (held_by vs closed longerBytes longerEntries))
          → SameUntilRoom (c ∷ cs) (held_by vs closed bytes entries) (held_by vs closed longerBytes longerEntries)
      by_room true refused on = stops c cs (held_by vs closed bytes entries) (held_by vs closed longerBytes longerEntries) refused (same_contents vs closed bytes entries longerBytes longerEntries)
      by_room false not-refused on = on not-refused
