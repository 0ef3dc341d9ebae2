-- Once a loading is settled, what follows may as well not be read: a loading that was stopped stays as it is, and of a line in which something
-- is wrong both its end and the end of the text say the same.
use Rattle.std.proofs.Common.{◌≡◌, ℕ, Bool, true, false, ◌||◌, eqb, is_some, unwrap_or, List, [], ◌∷◌, sym, refl, ap, ◌∙◌}
use mathlib.Core.Bool.{false≢true}
use Rattle.decimal.specs.declared.NumeralError.TheVariants.{NotADigit}
use Rattle.decimal.specs.Line.{byte_of}
use Rattle.decimal.proofs.Laws.{ended_wrong}
use Rattle.terms.specs.declared.Trouble.TheVariants.{NotANumber}
use Rattle.terms.specs.declared.Loading.{Loading}
use Rattle.terms.specs.Loading.{stopped_by, Taken, taken, said_of, next_of, bytes_of, Ended, ended_with, end_of}
use Rattle.terms.specs.Text.{ending_of, NothingChangesWhatIsSettled}
use Rattle.terms.proofs.Laws.{trouble_stays}

-- What more text leads to.
abbrev pub ends_after : List ℕ → Taken → Ended
ends_after text t = ending_of (bytes_of t.loading text t.bytes t.entries)

-- ---- after what stopped it

pub ends_stopped : (t : Taken) → is_some t.loading.trouble ≡ true → ending_of t ≡ ended_with t
unfolding end_of
ends_stopped t stopped = simp stopped

-- whatever follows
pub ends_as_stopped : (t : Taken) (text : List ℕ) → is_some t.loading.trouble ≡ true → ends_after text t ≡ ended_with t
ends_as_stopped t text stopped = ap ending_of (trouble_stays t.loading text t.bytes t.entries stopped) ∙ ends_stopped t stopped

-- ---- in a line in which something is wrong

module _ (ld : Loading) (bytes entries : List ℕ) (going : is_some ld.trouble ≡ false) (wrong : is_some ld.line.wrong ≡ true) where
  abbrev stopped-here : Taken
  stopped-here = taken (stopped_by (NotANumber (NotADigit ld.line.digits (unwrap_or ld.line.wrong 0))) ld) bytes entries

  wrong_ends : ending_of (taken ld bytes entries) ≡ ended_with stopped-here
  unfolding end_of
  wrong_ends = simp (going, wrong)

  wrong_feed : (b : ℕ) → eqb b 10 ≡ true → next_of ld b bytes entries ≡ stopped-here
  unfolding next_of said_of
  wrong_feed b feed = simp (going, feed, ended_wrong ld.line wrong)

  wrong_byte : (b : ℕ) → eqb b 10 ≡ false → next_of ld b bytes entries ≡ taken ld bytes entries
  unfolding next_of byte_of
  wrong_byte b other = simp (going, other, wrong)

  wrong_stays : (text : List ℕ) → ending_of (bytes_of ld text bytes entries) ≡ ending_of (taken ld bytes entries)
  unfolding bytes_of
  wrong_stays [] = refl
  wrong_stays (b ∷ bs) = by_byte (eqb b 10) refl (wrong_stays bs)
    where
      by_byte : (feed : Bool) → eqb b 10 ≡ feed → ending_of (bytes_of ld bs bytes entries) ≡ ending_of (taken ld bytes entries)
          → ending_of (bytes_of ld (b ∷ bs) bytes entries) ≡ ending_of (taken ld bytes entries)
      by_byte true feed rest = ap (ends_after bs) (wrong_feed b feed) ∙ ends_as_stopped stopped-here bs refl ∙ sym wrong_ends
      by_byte false other rest = ap (ends_after bs) (wrong_byte b other) ∙ rest

pub nothing_changes_what_is_settled : NothingChangesWhatIsSettled
nothing_changes_what_is_settled t text settled = by_trouble (is_some t.loading.trouble) (is_some t.loading.line.wrong) refl refl settled
  where
    by_trouble : (trouble wrong : Bool) → is_some t.loading.trouble ≡ trouble → is_some t.loading.line.wrong ≡ wrong → (wrong || trouble) ≡ true
        → ends_after text t ≡ ending_of t
    by_trouble true wrong stopped is settled = ends_as_stopped t text stopped ∙ sym (ends_stopped t stopped)
    by_trouble false true going wrong settled = wrong_stays t.loading t.bytes t.entries going wrong text
    by_trouble false false going fine settled = absurd (false≢true settled)
