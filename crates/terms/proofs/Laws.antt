-- What the checks of the definitions come to where they hold, and where they do not; what one byte of a text comes to, and what is left of the text
-- after it.
use Rattle.std.proofs.Common.{◌≡◌, ℕ, ◌+◌, ◌*◌, ◌<◌, ◌≤◌, Bool, true, false, cond, ◌&&◌, eqb, Option, Some, None, is_some, unwrap_or, Err, List, [], ◌∷◌, length, get_or, drop, sym, refl, ap, ◌∙◌, add-one, arith, drop_of_length-le, drop-cons, le-ltb, lt-ltb, eq-eqb, ne_eqb}
use Rattle.refusal.specs.declared.Refusal.{Refusal}
use Rattle.refusal.specs.declared.Refusal.TheVariants.{EntriesFull}
use Rattle.blocked_bitpacker.specs.declared.BlockedBitpacker.{BlockedBitpacker}
use Rattle.blocked_bitpacker.specs.Store.{block_limit, damaged_store}
use Rattle.blocked_bitpacker.specs.Calls.{refused_call, add_of, counted_of}
use Rattle.blocked_bitpacker.proofs.Counting.{not_counted}
use Rattle.decimal.specs.declared.NumeralError.TheVariants.{NotADigit}
use Rattle.terms.specs.declared.Trouble.{Trouble}
use Rattle.terms.specs.declared.Trouble.TheVariants.{NotANumber, Cut, NoLine}
use Rattle.decimal.specs.declared.line.Line.{Line}
use Rattle.decimal.specs.Line.{byte_of, ended_of}
use Rattle.terms.specs.declared.Loading.{Loading}
use Rattle.terms.specs.declared.Loaded.{Loaded}
use Rattle.terms.specs.Loading.{add_line_of, loading_of, Taken, taken, said_of, next_of, bytes_of, stopped_by, loaded_by, nothing_read, end_of}

-- ---- one number

module _ (s : BlockedBitpacker) (bytes entries : List ℕ) where
  pub damaged_refused : (v : ℕ) (why : Refusal) → counted_of s bytes entries ≡ Err why
      → refused_call why s bytes entries ≡ add_line_of s v bytes entries
  unfolding add_line_of
  damaged_refused v why e = let said = not_counted s bytes entries why e in simp (said.0, said.1)

  pub past_limit_refused : (v : ℕ) → damaged_store s (length bytes) (length entries) ≡ false → block_limit ≤ s.blocks
      → refused_call EntriesFull s bytes entries ≡ add_line_of s v bytes entries
  unfolding add_line_of
  past_limit_refused v sound full = simp (sound, lt-ltb block_limit (s.blocks + 1) (omega arith))

  pub no_entry_refused : (v : ℕ) → damaged_store s (length bytes) (length entries) ≡ false → s.blocks < block_limit
      → length entries < 2 * (s.blocks + 1) → refused_call EntriesFull s bytes entries ≡ add_line_of s v bytes entries
  unfolding add_line_of
  no_entry_refused v sound few full = simp (sound, le-ltb block_limit (s.blocks + 1) (omega arith), lt-ltb (length entries) _ full)

  pub entry_there : (v : ℕ) → damaged_store s (length bytes) (length entries) ≡ false → s.blocks < block_limit
      → 2 * (s.blocks + 1) ≤ length entries → add_of s v bytes entries ≡ add_line_of s v bytes entries
  unfolding add_line_of
  entry_there v sound few room = simp (sound, le-ltb block_limit (s.blocks + 1) (omega arith), le-ltb (length entries) _ room)

-- ---- a line of which nothing is read

pub no_digits : (l : Line) → is_some l.wrong ≡ false → l.after_cr ≡ false → eqb l.digits 0 ≡ nothing_read l
no_digits l right no-cr = sym (simp (right, no-cr))

-- ---- one byte

abbrev pub with_line : Loading → Line → Loading
with_line ld line = loading_of ld.store ld.lines line ld.trouble

pub no_trouble : (trouble : Option Trouble) → is_some trouble ≡ false → trouble ≡ None
no_trouble None none = refl
no_trouble (Some why) none = absurd (let z : ◌≡◌ {A = ℕ} 0 1 = cc in omega arith)

module _ (ld : Loading) (bytes entries : List ℕ) where
  next_feed : (b : ℕ) → is_some ld.trouble ≡ false → b ≡ 10 → next_of ld b bytes entries ≡ said_of ld (ended_of ld.line) bytes entries
  unfolding next_of
  next_feed b untroubled feed = simp (untroubled, eq-eqb b 10 feed)

  next_other : (b : ℕ) → is_some ld.trouble ≡ false → eqb b 10 ≡ false
      → next_of ld b bytes entries ≡ taken (with_line ld (byte_of ld.line b)) bytes entries
  unfolding next_of
  next_other b untroubled other = simp (untroubled, other)

  next_troubled : (b : ℕ) → is_some ld.trouble ≡ true → next_of ld b bytes entries ≡ taken ld bytes entries
  unfolding next_of
  next_troubled b troubled = simp troubled

-- ---- what is left of a text

-- The bytes that follow, from where a loading stands.
abbrev pub goes_on : Taken → List ℕ → Taken
goes_on t rest = bytes_of t.loading rest t.bytes t.entries

-- After what stopped it, nothing more changes it.
pub trouble_stays : (ld : Loading) (rest bytes entries : List ℕ) → is_some ld.trouble ≡ true
    → bytes_of ld rest bytes entries ≡ taken ld bytes entries
unfolding bytes_of
trouble_stays ld [] bytes entries troubled = refl
trouble_stays ld (b ∷ bs) bytes entries troubled =
    ap (λ t. goes_on t bs) (next_troubled ld bytes entries b troubled) ∙ trouble_stays ld bs bytes entries troubled

-- One byte of it, and at its end nothing.
module _ (ld : Loading) (text : List ℕ) (i : ℕ) (bytes entries : List ℕ) where
  one_byte : i < length text → bytes_of ld (drop i text) bytes entries ≡ goes_on (next_of ld (get_or text i 0) bytes entries) (drop (i + 1) text)
  unfolding bytes_of
  one_byte more =
      ap (λ rest. bytes_of ld rest bytes entries) (drop-cons text i 0 more)
      ∙ ap (λ n. goes_on (next_of ld (get_or text i 0) bytes entries) (drop n text)) (sym (add-one i))

  pub feed_next : i < length text → is_some ld.trouble ≡ false → get_or text i 0 ≡ 10
      → bytes_of ld (drop i text) bytes entries ≡ goes_on (said_of ld (ended_of ld.line) bytes entries) (drop (i + 1) text)
  feed_next more going feed = one_byte more ∙ ap (λ t. goes_on t (drop (i + 1) text)) (next_feed ld bytes entries (get_or text i 0) going feed)

  pub other_next : i < length text → is_some ld.trouble ≡ false → (get_or text i 0 ≡ 10 → ⊥)
      → bytes_of ld (drop i text) bytes entries ≡ bytes_of (with_line ld (byte_of ld.line (get_or text i 0))) (drop (i + 1) text) bytes entries
  other_next more going other =
      one_byte more ∙ ap (λ t. goes_on t (drop (i + 1) text)) (next_other ld bytes entries (get_or text i 0) going (ne_eqb _ 10 other))

  pub nothing_left : length text ≤ i → bytes_of ld (drop i text) bytes entries ≡ taken ld bytes entries
  unfolding bytes_of
  nothing_left done = ap (λ rest. bytes_of ld rest bytes entries) (drop_of_length-le text done)

-- ---- the end of a text

pub past_line : {A : Type 0} (a b rest : A) (troubled nothing none : Bool) → troubled ≡ false → nothing ≡ false
    → cond troubled a (cond (nothing && none) b (cond nothing a rest)) ≡ rest
past_line a b rest troubled nothing none going something = simp (going, something)

module _ (ld : Loading) where
  pub end_troubled : is_some ld.trouble ≡ true → loaded_by ld ≡ end_of ld
  unfolding end_of
  end_troubled troubled = sym (simp troubled)

  module _ (untroubled : is_some ld.trouble ≡ false) where
    pub end_without_line : nothing_read ld.line ≡ true → ld.lines ≡ 0 → loaded_by (stopped_by NoLine ld) ≡ end_of ld
    unfolding end_of
    end_without_line nothing none = sym (simp (untroubled, nothing, eq-eqb ld.lines 0 none))

    pub end_after_feed : nothing_read ld.line ≡ true → (ld.lines ≡ 0 → ⊥) → loaded_by ld ≡ end_of ld
    unfolding end_of
    end_after_feed nothing some = sym (simp (untroubled, nothing, ne_eqb ld.lines 0 some))

    module _ (something : nothing_read ld.line ≡ false) where
      abbrev behind : Bool → Loaded
      behind wrong = cond wrong (loaded_by (stopped_by (NotANumber (NotADigit ld.line.digits (unwrap_or ld.line.wrong 0))) ld)) (loaded_by (stopped_by Cut ld))

      in_a_line : behind (is_some ld.line.wrong) ≡ end_of ld
      unfolding end_of
      in_a_line = sym (past_line _ _ (behind (is_some ld.line.wrong)) _ _ (eqb ld.lines 0) untroubled something)

      pub end_in_wrong_line : is_some ld.line.wrong ≡ true → loaded_by (stopped_by (NotANumber (NotADigit ld.line.digits (unwrap_or ld.line.wrong 0))) ld) ≡ end_of ld
      end_in_wrong_line wrong = ap behind (sym wrong) ∙ in_a_line

      pub end_in_line : is_some ld.line.wrong ≡ false → loaded_by (stopped_by Cut ld) ≡ end_of ld
      end_in_line right = ap behind (sym right) ∙ in_a_line
