-- A run, call by call: from the store that values define, each call leaves the store that the values then accepted define (`next`), so a whole
-- run does (`ran`), and a fresh store is that of no values.
use mathlib.Core.Path.{◌≡◌, refl, sym, ap, ap₂, ◌∙◌, subst}
use mathlib.Core.Logic.{⊎_elim}
use mathlib.Core.Bool.{Bool, true, false, ◌||◌}
use mathlib.Core.List.{List, [], ◌∷◌, ◌++◌, append-nil, append_assoc}
use Prim.Native.Nat.{ℕ, ◌%◌, ◌≤◌, zero-le}
use native.Mathlib.Omega.{arith}
use lib.ListN.{length}
use borrow.Author.Tests.{lt-ltb, le-ltb}
use Rattle.bit_rule.proofs.Width.{le_or_lt}
use Rattle.blocked_bitpacker.specs.Calls.{new_of}
use Rattle.promises.specs.Reply.{values, refusal, done_reply}
use Rattle.promises.specs.Defined.{waiting_by, store_by, held_by}
use Rattle.promises.specs.Histories.{Call, add, flush, count, get, range, search, reply_of, left_by, begun, after, taken, accepted, closing, closed_by, WordsAdded, History}
use Rattle.promises.specs.Paper.{paper_answer}
use Rattle.promises.proofs.Cutting.{used_by_none, bytes_by_none, entries_by_none}
use Rattle.promises.proofs.Honest.{Fits}
use Rattle.promises.proofs.Answers.{Next, count_next, get_next, range_next, search_next, add_closed, flush_closed, add_waits, add_seals, flush_nothing, flush_seals}

-- ---- one call

pub next : (c : Call) (cs : List Call) (vs : List ℕ) (closed : Bool) (bytes entries : List ℕ) → WordsAdded (c ∷ cs) → Fits vs closed bytes entries
    → Next c vs closed bytes entries
next (add v) cs vs true bytes entries words fits = add_closed vs bytes entries fits v
next (add v) cs vs false bytes entries words fits =
    ⊎_elim (λ last. add_seals vs bytes entries fits v words.0 (omega arith)) (λ few. add_waits vs bytes entries fits v words.0 few)
    (le_or_lt 127 (length vs % 128))
next flush cs vs true bytes entries words fits = flush_closed vs bytes entries fits
next flush cs vs false bytes entries words fits =
    ⊎_elim (λ none. flush_nothing vs bytes entries fits (omega arith)) (λ some. flush_seals vs bytes entries fits some)
    (le_or_lt (length vs % 128) 0)
next count cs vs closed bytes entries words fits = count_next vs closed bytes entries fits
next (get i) cs vs closed bytes entries words fits = get_next vs closed bytes entries fits i
next (range start out) cs vs closed bytes entries words fits = range_next vs closed bytes entries fits start out
next (search lo hi start end positions) cs vs closed bytes entries words fits = search_next vs closed bytes entries fits lo hi start end positions

pub words_rest : (c : Call) (cs : List Call) → WordsAdded (c ∷ cs) → WordsAdded cs
words_rest (add v) cs words = words.1
words_rest flush cs words = words
words_rest count cs words = words
words_rest (get i) cs words = words
words_rest (range start out) cs words = words
words_rest (search lo hi start end positions) cs words = words

-- ---- a run

-- What a run from the store of some values comes to.
pub record Ran (calls : List Call) (vs : List ℕ) (closed : Bool) (bytes entries : List ℕ) : Type 0 where
  pub vs' : List ℕ
  pub closed' : Bool
  pub left_is : after calls (held_by vs closed bytes entries) ≡ held_by vs' closed' bytes entries
  pub grown : vs' ≡ vs ++ accepted calls (held_by vs closed bytes entries)
  pub flag : closed' ≡ (closed || closed_by calls (held_by vs closed bytes entries))
  pub fits : Fits vs' closed' bytes entries

or_assoc : (a b c : Bool) → ((a || b) || c) ≡ (a || (b || c))
or_assoc true b c = refl
or_assoc false b c = refl

or-false : (a : Bool) → a ≡ (a || false)
or-false true = refl
or-false false = refl

waiting_is : (vs : List ℕ) (closed : Bool) (bytes entries : List ℕ) → (held_by vs closed bytes entries).store.waiting ≡ length (waiting_by vs closed)
unfolding held_by store_by
waiting_is vs closed bytes entries = refl

pub ran : (calls : List Call) (vs : List ℕ) (closed : Bool) (bytes entries : List ℕ) → WordsAdded calls → Fits vs closed bytes entries → Ran calls vs closed bytes entries
unfolding after accepted closed_by
ran [] vs closed bytes entries words fits =
    record { vs' = vs; closed' = closed; left_is = refl; grown = sym (append-nil vs); flag = or-false closed; fits = fits }
ran (c ∷ cs) vs closed bytes entries words fits =
    let h = held_by vs closed bytes entries in
    let step = next c cs vs closed bytes entries words fits in
    let k = held_by step.vs' step.closed' bytes entries in
    let rest = ran cs step.vs' step.closed' bytes entries (words_rest c cs words) step.fits in
    let left : left_by c h ≡ k = ap (λ o. o.left) step.comes_to in
    let said : reply_of c h ≡ (paper_answer c vs closed (length bytes) (length entries)).reply = ap (λ o. o.answer.reply) step.comes_to in
    record {
      vs' = rest.vs';
      closed' = rest.closed';
      left_is = ap (after cs) left ∙ rest.left_is;
      grown =
          rest.grown
          ∙ ap₂ (λ l m. l ++ accepted cs m) (step.grown ∙ ap (λ r. vs ++ taken c r) (sym said)) (sym left)
          ∙ append_assoc vs (taken c (reply_of c h)) (accepted cs (left_by c h));
      flag =
          rest.flag
          ∙ ap₂ (λ b m. b || closed_by cs m)
          (step.flag ∙ ap₂ (λ r w. closed || closing c r w) (sym said) (sym (waiting_is vs closed bytes entries))) (sym left)
          ∙ or_assoc closed (closing c (reply_of c h) h.store.waiting) (closed_by cs (left_by c h));
      fits = rest.fits;
    }

-- ---- from a fresh store

pub made_room : (bytes : List ℕ) → done_reply (new_of bytes).stored.done ≡ values [] → 8 ≤ length bytes
unfolding new_of
made_room bytes made =
    ⊎_elim (λ room. room)
    (λ short.
    let refused : done_reply (new_of bytes).stored.done ≡ refusal 4 = simp (lt-ltb (length bytes) 8 short) in
    let never : ◌≡◌ {A = ℕ} 0 1 = cc in
    absurd (omega arith))
    (le_or_lt 8 (length bytes))

pub begun_is : (bytes entries : List ℕ) → 8 ≤ length bytes → begun bytes entries ≡ held_by [] false bytes entries
unfolding new_of held_by store_by
begun_is bytes entries room =
    simp (le-ltb (length bytes) 8 room, used_by_none, bytes_by_none, entries_by_none)

pub fresh_fits : (bytes entries : List ℕ) → 8 ≤ length bytes → Fits [] false bytes entries
fresh_fits bytes entries room =
    record {
      words = λ i. omega arith;
      limit = zero-le;
      room = omega (arith, used_by_none []);
      entry_room = zero-le;
      short = λ e. absurd (let z : ◌≡◌ {A = ℕ} 0 1 = cc in omega arith);
    }

-- What a history comes to: the store that its accepted values define.
pub record Lived (bytes entries : List ℕ) (calls : List Call) : Type 0 where
  pub left_is : after calls (begun bytes entries) ≡ held_by (accepted calls (begun bytes entries)) (closed_by calls (begun bytes entries)) bytes entries
  pub fits : Fits (accepted calls (begun bytes entries)) (closed_by calls (begun bytes entries)) bytes entries

pub lived : (bytes entries : List ℕ) (calls : List Call) → History bytes calls → Lived bytes entries calls
lived bytes entries calls history =
    let room = made_room bytes history.made in
    let start = begun_is bytes entries room in
    let run = ran calls [] false bytes entries history.words (fresh_fits bytes entries room) in
    let values_are : run.vs' ≡ accepted calls (begun bytes entries) = run.grown ∙ ap (accepted calls) (sym start) in
    let flag_is : run.closed' ≡ closed_by calls (begun bytes entries) = run.flag ∙ ap (closed_by calls) (sym start) in
    record {
      left_is = ap (after calls) start ∙ run.left_is ∙ ap₂ (λ l b. held_by l b bytes entries) values_are flag_is;
      fits = subst (λ b. Fits (accepted calls (begun bytes entries)) b bytes entries) flag_is (subst (λ l. Fits l run.closed' bytes entries) values_are run.fits);
    }
