-- What reading a block comes to: a range's values with the base added, where the width is legal, and the base is added to one value after
-- the other. By cases on the checks, and by induction on the values.
use Rattle.std.specs.Prelude.{Ok, Err, Result}
use Rattle.std.proofs.Common.{◌≡◌, ℕ, zero, suc, ◌+◌, Bool, true, false, cond, not, eqb, List, [], ◌∷◌, ◌++◌, map, length, get_or, take, drop, set, sym, refl, ap, ◌∙◌, subst, add-one, arith, eq-eqb, eqb-true}
use Rattle.bit_rule.specs.Place.{value_at, lies_in, values_from}
use Rattle.bit_rule.specs.Width.{legal_width}
use Rattle.refusal.specs.declared.Refusal.{Refusal}
use Rattle.refusal.specs.declared.Refusal.TheVariants.{BadWidth, OutOfData}
use Rattle.refusal.specs.Done.{done}
use Rattle.bitunpacker.specs.declared.BitUnpacker.{BitUnpacker}
use Rattle.bitunpacker.specs.Unpacker.{Range, range, mask_of, unpacker_of, new_of, out_of_data, get_of, get_range_of}
use Rattle.block.specs.Block.{above_base}
use Rattle.block.specs.Calls.{read_of, read_one_of}

-- ---- adding the base

-- the first i values changed by f, the others not yet
abbrev pub first_changed : (ℕ → ℕ) → ℕ → List ℕ → List ℕ
first_changed f i vs = map f (take i vs) ++ drop i vs

change_suc : (f : ℕ → ℕ) (i : ℕ) (vs : List ℕ) → set (first_changed f i vs) i (f (get_or (first_changed f i vs) i 0)) ≡ first_changed f (suc i) vs
change_suc f zero [] = refl
change_suc f zero (v ∷ vs) = refl
change_suc f (suc i) [] = refl
change_suc f (suc i) (v ∷ vs) = ap (λ l. f v ∷ l) (change_suc f i vs)

-- one value more
pub change_next : (f : ℕ → ℕ) (i : ℕ) (vs : List ℕ) → set (first_changed f i vs) i (f (get_or (first_changed f i vs) i 0)) ≡ first_changed f (i + 1) vs
change_next f i vs = change_suc f i vs ∙ ap (λ k. first_changed f k vs) (sym (add-one i))

-- and at the end all of them
pub changed_all : (f : ℕ → ℕ) (vs : List ℕ) → first_changed f (length vs) vs ≡ map f vs
changed_all f [] = refl
changed_all f (v ∷ vs) = ap (λ l. f v ∷ l) (changed_all f vs)

map_empty : (f : ℕ → ℕ) (vs : List ℕ) → eqb (length vs) 0 ≡ true → map f vs ≡ vs
map_empty f [] empty = refl
map_empty f (v ∷ vs) empty = absurd (omega (arith, eqb-true (suc (length vs)) 0 empty))

-- ---- the unpacker of a width

-- what an answer of `new` says of the width: there is an unpacker exactly where it is legal
abbrev pub NewSays : ℕ → Result BitUnpacker Refusal → Type 0
NewSays w (Ok u) = (legal_width w ≡ true) × (u ≡ unpacker_of w)
NewSays w (Err why) = (legal_width w ≡ false) × (why ≡ BadWidth)

pub new_says : (w : ℕ) (made : Result BitUnpacker Refusal) → made ≡ new_of w → NewSays w made
unfolding new_of
new_says w made is = subst (NewSays w) (sym is) (by_width (legal_width w) refl)
  where
    by_width : (legal : Bool) → legal_width w ≡ legal → NewSays w (cond (not legal) (Err BadWidth) (Ok (unpacker_of w)))
    by_width true legal = (legal, refl)
    by_width false illegal = (illegal, refl)

-- ---- the whole call

abbrev raised_where : ℕ → Result (Unit {0}) Refusal → List ℕ → Range
raised_where base (Ok _) out = range done (map (above_base base) out)
raised_where base (Err why) out = range (Err why) out

-- what a range read answers and leaves, with the base added where it filled the output
abbrev pub raised : ℕ → Range → Range
raised base r = raised_where base r.answer r.output

module _ (base w first : ℕ) (bytes out : List ℕ) where
  -- A legal width's own unpacker passes the first two checks of a range read, and the others are those of the definition.
  pub read_legal : legal_width w ≡ true → raised base (get_range_of (unpacker_of w) first bytes out) ≡ read_of base w first bytes out
  unfolding get_range_of read_of
  read_legal legal =
      simp (legal, eq-eqb (mask_of w) (mask_of w) refl)
      (by_checks (eqb (length out) 0) (out_of_data (unpacker_of w) (first + length out) bytes) (map_empty (above_base base) out))
    where
      values : List ℕ
      values = values_from w first (length out) bytes

      by_checks : (empty short : Bool) → (empty ≡ true → map (above_base base) out ≡ out)
          → raised base (cond empty (range done out) (cond short (range (Err OutOfData) out) (range done values)))
          ≡ cond empty (range done out) (cond short (range (Err OutOfData) out) (range done (map (above_base base) values)))
      by_checks true short same = ap (range done) (same refl)
      by_checks false true same = refl
      by_checks false false same = refl

  -- by what `new` answers
  pub read_made : (u : BitUnpacker) → Ok u ≡ new_of w → (got : Range) → got ≡ get_range_of u first bytes out → raised base got ≡ read_of base w first bytes out
  read_made u made got is =
      let says = new_says w (Ok u) made in
      ap (raised base) (is ∙ ap (λ v. get_range_of v first bytes out) says.1) ∙ read_legal says.0

  pub read_not_made : (why : Refusal) → Err why ≡ new_of w → range (Err why) out ≡ read_of base w first bytes out
  unfolding read_of
  read_not_made why not_made =
      let says = new_says w (Err why) not_made in
      simp says.0 (ap (λ r. range (Err r) out) says.1)

-- ---- one value

abbrev pub raised_value : ℕ → Result ℕ Refusal → Result ℕ Refusal
raised_value base (Ok v) = Ok (above_base base v)
raised_value base (Err why) = Err why

module _ (base w place : ℕ) (bytes : List ℕ) where
  -- as for a range: a legal width's own unpacker passes the first two checks
  pub read_one_made : (u : BitUnpacker) → Ok u ≡ new_of w → (got : Result ℕ Refusal) → got ≡ get_of u place bytes → raised_value base got ≡ read_one_of base w place bytes
  unfolding get_of read_one_of
  read_one_made u made got is =
      let says = new_says w (Ok u) made in
      ap (raised_value base) (is ∙ ap (λ v. get_of v place bytes) says.1)
      ∙ simp (says.0, eq-eqb (mask_of w) (mask_of w) refl) (by_check (lies_in w place (length bytes)))
    where
      by_check : (inside : Bool)
          → raised_value base (cond (not inside) (Err OutOfData) (Ok (value_at w place bytes)))
          ≡ cond (not inside) (Err OutOfData) (Ok (above_base base (value_at w place bytes)))
      by_check true = refl
      by_check false = refl

  pub read_one_not_made : (why : Refusal) → Err why ≡ new_of w → Err why ≡ read_one_of base w place bytes
  unfolding read_one_of
  read_one_not_made why not_made =
      let says = new_says w (Err why) not_made in
      simp says.0 (ap Err says.1)
