-- The store then holds the text's numbers: each accepted line's number is its numeral, adding it is the store's own add, and so the store is
-- that of a history of adds, of which the promises speak.
use Rattle.std.proofs.Common.{◌≡◌, ℕ, suc, ◌+◌, ◌^◌, ◌<◌, ◌≤◌, Bool, true, false, cond, eqb, ltb, leb, Option, Some, None, is_some, Result, Ok, Err, List, [], ◌∷◌, ◌++◌, map, length, get_or, take, sym, refl, ap, ◌∙◌, subst, ap₂, subst₂, true≢false, append-nil, pos_of_ne-zero, arith, le-ltb, leb-false}
use Rattle.refusal.specs.declared.Refusal.{Refusal}
use Rattle.refusal.specs.Done.{done}
use lib.ListN.{length-map}
use borrow.Author.Tests.{eqb-false}
use Rattle.blocked_bitpacker.specs.Calls.{new_of}
use Rattle.decimal.specs.declared.NumeralError.{NumeralError}
use Rattle.decimal.specs.declared.NumeralError.TheVariants.{Empty, NotADigit, TooLarge}
use Rattle.decimal.specs.Digits.{first_other, numeral, number_or_too_large, read_of}
use Rattle.decimal.specs.Line.{without_cr}
use Rattle.promises.specs.Reply.{values, done_reply}
use Rattle.promises.specs.Defined.{Held, held}
use Rattle.promises.specs.Histories.{Call, add, count, get, outcome_of, reply_of, left_by, begun, after, taken, accepted, WordsAdded, History}
use Rattle.promises.specs.Promises.{Found}
use Rattle.promises.proofs.Promises.{what_was_added_is_what_is_read, nobody_is_missing}
use Rattle.terms.specs.declared.Trouble.{Trouble}
use Rattle.terms.specs.declared.Trouble.TheVariants.{NotANumber, Refused, Cut, NoLine}
use Rattle.terms.specs.Loading.{Ended}
use Rattle.terms.specs.Text.{lines_of, rest_of, numbers_of, stop, after_answer, after_line, without_end, after_last, load_lines, on_new, load_of, adds, Holds, TheStoreHoldsTheNumbers, TheCountIsTheLines, WhatIsInTheTextIsRead, NobodyInTheTextIsMissing}
use Rattle.terms.proofs.Adding.{addLineIn, accepted_is_add}

-- ---- the number of a line

record Reads (l : List ℕ) (v : ℕ) : Type 0 where
  value : v ≡ numeral l
  word : v < 2 ^ 64

reads : (l : List ℕ) (v : ℕ) → read_of l ≡ Ok v → Reads l v
unfolding read_of number_or_too_large
reads l v is = by_tests (eqb (length l) 0) (ltb (first_other l) (length l)) (leb (2 ^ 64) (numeral l)) refl is
  where
    by_tests : (none other large : Bool) → leb (2 ^ 64) (numeral l) ≡ large
        → cond none (Err Empty) (cond other (Err (NotADigit (first_other l) (get_or l (first_other l) 0))) (cond large (Err TooLarge) (Ok (numeral l)))) ≡ Ok v → Reads l v
    by_tests true other large fits h = absurd (let z : ◌≡◌ {A = ℕ} 0 1 = cc in omega arith)
    by_tests false true large fits h = absurd (let z : ◌≡◌ {A = ℕ} 0 1 = cc in omega arith)
    by_tests false false true fits h = absurd (let z : ◌≡◌ {A = ℕ} 0 1 = cc in omega arith)
    by_tests false false false fits h =
        let same : v ≡ numeral l = cc in
        record { value = same; word = omega (arith, leb-false (2 ^ 64) (numeral l) fits) }

-- ---- line by line

held_of : Ended → Held
held_of r = held r.loaded.store r.bytes r.entries

-- Of what lines led to, after so many others and from such a store: what `Holds` says, but for the history's beginning.
record HoldsFrom (rest : List ℕ) (ls : List (List ℕ)) (lines : ℕ) (h : Held) (r : Ended) : Type 0 where
  numbers : List ℕ
  more : ℕ
  counted : r.loaded.lines ≡ lines + more
  one_a_line : length numbers ≡ more
  first : numbers ≡ take more (map numeral ls)
  words : WordsAdded (adds numbers)
  added : held_of r ≡ after (adds numbers) h
  all_accepted : accepted (adds numbers) h ≡ numbers
  whole : r.loaded.trouble ≡ None → numbers ≡ map numeral ls
  ended_line : r.loaded.trouble ≡ None → rest ≡ []
  some : r.loaded.trouble ≡ None → 0 < lines + more

holds_none : (rest : List ℕ) (ls : List (List ℕ)) (lines : ℕ) (h : Held) (trouble : Option Trouble)
    → (trouble ≡ None → ([] ≡ map numeral ls) × (rest ≡ []) × (0 < lines)) → HoldsFrom rest ls lines h (stop trouble lines h)
unfolding held_of after accepted
holds_none rest ls lines h trouble all =
    record {
      numbers = [];
      more = 0;
      counted = omega arith;
      one_a_line = refl;
      first = refl;
      words = tt;
      added = refl;
      all_accepted = refl;
      whole = λ none. (all none).0;
      ended_line = λ none. (all none).1;
      some = λ none. omega (arith, (all none).2);
    }

-- where a line stopped it
holds_stopped : (rest : List ℕ) (ls : List (List ℕ)) (lines : ℕ) (h : Held) (trouble : Trouble)
    → HoldsFrom rest ls lines h (stop (Some trouble) lines h)
holds_stopped rest ls lines h trouble = holds_none rest ls lines h (Some trouble) (λ none. absurd (true≢false (ap is_some none)))

-- where the lines are at their end
holds_last : (rest : List ℕ) (lines : ℕ) (h : Held) → HoldsFrom rest [] lines h (after_last rest lines h)
holds_last [] lines h = by_count (eqb lines 0) refl
  where
    by_count : (none : Bool) → eqb lines 0 ≡ none → HoldsFrom [] [] lines h (stop (cond none (Some NoLine) None) lines h)
    by_count true is = holds_stopped [] [] lines h NoLine
    by_count false is = holds_none [] [] lines h None (λ none. (refl, refl, pos_of_ne-zero (eqb-false lines 0 is)))
holds_last (b ∷ bs) lines h = by_read (read_of (without_cr (b ∷ bs)))
  where
    by_read : (q : Result ℕ NumeralError) → HoldsFrom (b ∷ bs) [] lines h (without_end q lines h)
    by_read (Ok v) = holds_stopped (b ∷ bs) [] lines h Cut
    by_read (Err Empty) = holds_stopped (b ∷ bs) [] lines h Cut
    by_read (Err (NotADigit place c)) = holds_stopped (b ∷ bs) [] lines h (NotANumber (NotADigit place c))
    by_read (Err TooLarge) = holds_stopped (b ∷ bs) [] lines h Cut

-- the number of the first line, which was accepted, and those behind it
module _ (h : Held) (v : ℕ) (is : (addLineIn h v).stored.done ≡ done) where
  after_add : Held
  after_add = held (addLineIn h v).stored.store (addLineIn h v).bytes (addLineIn h v).entries

  leaves : after_add ≡ left_by (add v) h
  unfolding after_add outcome_of
  leaves = ap (λ c. held c.stored.store c.bytes c.entries) (accepted_is_add h v is)

  replies : reply_of (add v) h ≡ values []
  unfolding outcome_of
  replies = ap (λ c. done_reply c.stored.done) (sym (accepted_is_add h v is)) ∙ ap done_reply is

  holds_more : (left l : List ℕ) (ls : List (List ℕ)) (lines : ℕ) (r : Ended) → Reads l v → HoldsFrom left ls (lines + 1) after_add r
      → HoldsFrom left (l ∷ ls) lines h r
  unfolding after accepted
  holds_more left l ls lines r line rest =
      record {
        numbers = v ∷ rest.numbers;
        more = suc rest.more;
        counted = omega (arith, rest.counted);
        one_a_line = ap suc rest.one_a_line;
        first = ap₂ ◌∷◌ line.value rest.first;
        words = (line.word, rest.words);
        added = rest.added ∙ ap (after (adds rest.numbers)) leaves;
        all_accepted =
            ap (λ reply. taken (add v) reply ++ accepted (adds rest.numbers) (left_by (add v) h)) replies
            ∙ ap (λ k. v ∷ accepted (adds rest.numbers) k) (sym leaves)
            ∙ ap (λ vs. v ∷ vs) rest.all_accepted;
        whole = λ none. ap₂ ◌∷◌ line.value (rest.whole none);
        ended_line = rest.ended_line;
        some = λ none. omega (arith, rest.some none);
      }

module _ (left : List ℕ) where
  holds_lines : (ls : List (List ℕ)) (lines : ℕ) (h : Held) → HoldsFrom left ls lines h (load_lines left ls lines h)
  unfolding load_lines after_add
  holds_lines [] lines h = holds_last left lines h
  holds_lines (l ∷ ls) lines h = by_line (read_of l) refl (holds_lines ls)
    where
      by_answer : (v : ℕ) (done : Result (Unit {0}) Refusal) → (addLineIn h v).stored.done ≡ done → Reads l v
          → ((lines : ℕ) (h : Held) → HoldsFrom left ls lines h (load_lines left ls lines h))
          → HoldsFrom left (l ∷ ls) lines h (after_answer (addLineIn h v) done lines h (load_lines left ls))
      by_answer v (Ok _) is line rest = holds_more h v is left l ls lines _ line (rest (lines + 1) (after_add h v is))
      by_answer v (Err why) is line rest = holds_stopped left (l ∷ ls) lines h (Refused why)

      by_line : (q : Result ℕ NumeralError) → read_of l ≡ q → ((lines : ℕ) (h : Held) → HoldsFrom left ls lines h (load_lines left ls lines h))
          → HoldsFrom left (l ∷ ls) lines h (after_line q lines h (load_lines left ls))
      by_line (Ok v) is rest = by_answer v (addLineIn h v).stored.done refl (reads l v is) rest
      by_line (Err Empty) is rest = holds_stopped left (l ∷ ls) lines h (NotANumber Empty)
      by_line (Err (NotADigit place b)) is rest = holds_stopped left (l ∷ ls) lines h (NotANumber (NotADigit place b))
      by_line (Err TooLarge) is rest = holds_stopped left (l ∷ ls) lines h (NotANumber TooLarge)

-- ---- from a new store

-- which is made where there are eight bytes
is_made : (bytes : List ℕ) → 8 ≤ length bytes → (new_of bytes).stored.done ≡ done
unfolding new_of
is_made bytes room = simp (le-ltb (length bytes) 8 room)

pub the_store_holds_the_numbers : TheStoreHoldsTheNumbers
unfolding load_of held_of
the_store_holds_the_numbers text bytes entries room =
    let h = begun bytes entries in
    let made = is_made bytes room in
    let left = rest_of text in
    let loads : load_lines left (lines_of text) 0 h ≡ load_of text bytes entries = ap (λ done. on_new done text h) (sym made) in
    let all = holds_lines left (lines_of text) 0 h in
    let count : all.more ≡ (load_lines left (lines_of text) 0 h).loaded.lines = omega (arith, all.counted) in
    subst (Holds text bytes entries) loads
    (record {
      numbers = all.numbers;
      first = all.first ∙ ap (λ n. take n (numbers_of text)) count;
      one_a_line = all.one_a_line ∙ count;
      history = record { made = ap done_reply made; words = all.words };
      added = all.added;
      all_accepted = all.all_accepted;
      whole = all.whole;
      ended_line = all.ended_line;
      some = λ none. omega (arith, all.some none, all.one_a_line);
    })

-- Of a text that nothing stopped: what it led to is a history of adds, which accepted the text's numbers.
module _ (text bytes entries : List ℕ) (room : 8 ≤ length bytes) (nothing : (load_of text bytes entries).loaded.trouble ≡ None) where
  abbrev all : Holds text bytes entries (load_of text bytes entries)
  all = the_store_holds_the_numbers text bytes entries room

  abbrev its-adds : List Call
  its-adds = adds all.numbers

  its_history : History bytes (its-adds ++ [])
  its_history = subst (History bytes) (sym (append-nil its-adds)) all.history

  its_numbers : accepted its-adds (begun bytes entries) ≡ numbers_of text
  its_numbers = all.all_accepted ∙ all.whole nothing

  its_store : after (its-adds ++ []) (begun bytes entries) ≡ held_of (load_of text bytes entries)
  unfolding held_of
  its_store = ap (λ cs. after cs (begun bytes entries)) (append-nil its-adds) ∙ sym all.added

pub the_count_is_the_lines : TheCountIsTheLines
unfolding held_of
the_count_is_the_lines text bytes entries room nothing =
    let calls = its-adds text bytes entries room nothing in
    let all-calls : accepted (calls ++ []) (begun bytes entries) ≡ numbers_of text =
    ap (λ cs. accepted cs (begun bytes entries)) (append-nil calls) ∙ its_numbers text bytes entries room nothing in
    let one_a_line : length (numbers_of text) ≡ length (lines_of text) = length-map (lines_of text) numeral in
    let counted = (what_was_added_is_what_is_read bytes entries calls [] (its_history text bytes entries room nothing)).0.number in
    let all = the_store_holds_the_numbers text bytes entries room in (
      ap (reply_of count) (sym (its_store text bytes entries room nothing))
          ∙ counted
          ∙ ap (λ n. values (n ∷ [])) (ap length all-calls ∙ one_a_line),
      sym all.one_a_line ∙ ap length (all.whole nothing) ∙ one_a_line,
    )

pub what_is_in_the_text_is_read : WhatIsInTheTextIsRead
unfolding held_of
what_is_in_the_text_is_read text bytes entries room nothing i inside =
    let numbers-are = its_numbers text bytes entries room nothing in
    let among : i < length (numbers_of text) = omega (arith, length-map (lines_of text) numeral, inside) in
    let read =
    (what_was_added_is_what_is_read bytes entries (its-adds text bytes entries room nothing) [] (its_history text bytes entries room nothing)).1.one i in
    ap (reply_of (get i)) (sym (its_store text bytes entries room nothing))
    ∙ read (subst (λ vs. i < length vs) (sym numbers-are) among)
    ∙ ap (λ vs. values (get_or vs i 0 ∷ [])) numbers-are

pub nobody_in_the_text_is_missing : NobodyInTheTextIsMissing
unfolding held_of
nobody_in_the_text_is_missing text bytes entries room nothing lo hi start end positions inside enough =
    let numbers-are = its_numbers text bytes entries room nothing in
    let found =
    nobody_is_missing bytes entries (its-adds text bytes entries room nothing) [] (its_history text bytes entries room nothing) in
    subst₂ (λ vs k. Found vs lo hi start end positions k) numbers-are (its_store text bytes entries room nothing)
    (found lo hi start end positions (subst (λ vs. end ≤ length vs) (sym numbers-are) inside) enough)
