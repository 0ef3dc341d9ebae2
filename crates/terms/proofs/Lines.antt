-- The first line of a text: what stands before its first line feed, without the carriage return that belongs to that end. Where no line feed
-- is in it, it has no line, and all of it is what follows the last one.
use Rattle.std.proofs.Common.{◌≡◌, ℕ, Bool, true, false, cond, ◌||◌, eqb, List, [], ◌∷◌, ◌++◌, refl, ap, ◌∙◌}
use mathlib.Core.Bool.{and-false, or-true}
use Rattle.decimal.specs.Line.{without_cr}
use Rattle.terms.specs.Text.{starts_with_feed, in_first, lines_of, has_feed, rest_of}

-- No byte is a line feed.
abbrev pub NoFeed : List ℕ → Type 0
NoFeed [] = Unit {0}
NoFeed (b ∷ bs) = (eqb b 10 ≡ false) × NoFeed bs

pub no_feed_more : (bs : List ℕ) (b : ℕ) → NoFeed bs → eqb b 10 ≡ false → NoFeed (bs ++ b ∷ [])
no_feed_more [] b none other = (other, tt)
no_feed_more (c ∷ cs) b none other = (none.0, no_feed_more cs b none.1 other)

-- a byte that ends no line and belongs to no end is the line's
inside_line : (b : ℕ) (bs : List ℕ) → eqb b 10 ≡ false → starts_with_feed bs ≡ false → lines_of (b ∷ bs) ≡ in_first b (lines_of bs)
unfolding lines_of
inside_line b bs other before = simp (other, before, and-false)

pub feed_ends : (b : ℕ) (rest : List ℕ) → eqb b 10 ≡ true → lines_of (b ∷ rest) ≡ [] ∷ lines_of rest
unfolding lines_of
feed_ends b rest feed = simp feed

pub first_line : (line : List ℕ) (b : ℕ) (rest : List ℕ) → NoFeed line → eqb b 10 ≡ true → lines_of (line ++ b ∷ rest) ≡ without_cr line ∷ lines_of rest
unfolding lines_of without_cr
first_line [] b rest none feed = feed_ends b rest feed
first_line (c ∷ []) b rest none feed = by_return (eqb c 13) refl
  where
    by_return : (return : Bool) → eqb c 13 ≡ return → lines_of (c ∷ b ∷ rest) ≡ cond (eqb c 13) [] (c ∷ []) ∷ lines_of rest
    by_return true is = simp (none.0, is, feed)
    by_return false is = simp (none.0, is, feed)
first_line (c ∷ d ∷ ds) b rest none feed =
    inside_line c (d ∷ ds ++ b ∷ rest) none.0 none.1.0 ∙ ap (in_first c) (first_line (d ∷ ds) b rest none.1 feed)

-- ---- where no line feed is

pub no_line : (bs : List ℕ) → NoFeed bs → lines_of bs ≡ []
unfolding lines_of
no_line [] none = refl
no_line (b ∷ []) none = inside_line b [] none.0 refl
no_line (b ∷ c ∷ cs) none = inside_line b (c ∷ cs) none.0 none.1.0 ∙ ap (in_first b) (no_line (c ∷ cs) none.1)

no_feed : (bs : List ℕ) → NoFeed bs → has_feed bs ≡ false
unfolding has_feed
no_feed [] none = refl
no_feed (b ∷ bs) none = simp (none.0, no_feed bs none.1)

pub all_rest : (bs : List ℕ) → NoFeed bs → rest_of bs ≡ bs
unfolding rest_of
all_rest [] none = refl
all_rest (b ∷ bs) none = ap (λ t. cond t (rest_of bs) (b ∷ bs)) (no_feed (b ∷ bs) none)

-- ---- behind a line feed

has_feed_lem : (line : List ℕ) (b : ℕ) (rest : List ℕ) → eqb b 10 ≡ true → has_feed (line ++ b ∷ rest) ≡ true
unfolding has_feed
has_feed_lem [] b rest feed = simp feed
has_feed_lem (c ∷ cs) b rest feed = ap (λ t. eqb c 10 || t) (has_feed_lem cs b rest feed) ∙ or-true (eqb c 10)

pub rest_behind : (line : List ℕ) (b : ℕ) (rest : List ℕ) → eqb b 10 ≡ true → rest_of (line ++ b ∷ rest) ≡ rest_of rest
unfolding rest_of
rest_behind [] b rest feed = ap (λ t. cond t (rest_of rest) (b ∷ rest)) (has_feed_lem [] b rest feed)
rest_behind (c ∷ cs) b rest feed =
    ap (λ t. cond t (rest_of (cs ++ b ∷ rest)) (c ∷ cs ++ b ∷ rest)) (has_feed_lem (c ∷ cs) b rest feed) ∙ rest_behind cs b rest feed
