-- The ids of the values in an interval are listed exactly, and ascending: value by value from the first, whose id is below all later ones.
use mathlib.Core.Path.{◌≡◌, refl, sym, ap, ap₂, ◌∙◌, subst}
use mathlib.Core.Logic.{⊎_elim}
use mathlib.Core.Bool.{Bool, true, false, ◌||◌, ◌&&◌, cond}
use mathlib.Core.List.{List, [], ◌∷◌}
use Prim.Native.Nat.{ℕ, suc, ◌+◌, ◌-◌, ◌≤◌, ◌<◌}
use native.Mathlib.Nat.{le_antisymm}
use native.Mathlib.Omega.{arith}
use lib.Dec.{leb, ltb, eqb}
use lib.ListN.{length, get_or, drop, length-drop}
use lib.Seq.{length-take-le, get_or-take, get_or-drop}
use borrow.Author.Tests.{lt-ltb, le-ltb, le-leb, lt-leb, eq-eqb, ne_eqb, ltb-true}
use Rattle.bit_rule.specs.Search.{lies_between, matching_ids}
use Rattle.bit_rule.proofs.Width.{le_or_lt}
use Rattle.promises.specs.Column.{stretch}
use Rattle.promises.specs.Promises.{is_one_of, ascending, OnlyOneList}

module _ (lo hi : ℕ) where
  -- whether x is the id of one of the values, counted from `id`, that lie in the interval
  unfoldable pub listed : ℕ → List ℕ → ℕ → Bool
  listed id vs x = leb id x && ltb x (id + length vs) && lies_between lo hi (get_or vs (x - id) 0)

  -- of the first value, and of the others
  first_or_later : (id v : ℕ) (vs : List ℕ) (x : ℕ) → ((lies_between lo hi v && eqb x id) || listed (id + 1) vs x) ≡ listed id (v ∷ vs) x
  unfolding listed
  first_or_later id v vs x = ⊎_elim (λ up. ⊎_elim (λ down. same (lies_between lo hi v) (omega arith) ∙ first_place (omega arith)) later (le_or_lt x id)) before (le_or_lt id x)
    where
      before : x < id → ((lies_between lo hi v && eqb x id) || listed (id + 1) vs x) ≡ listed id (v ∷ vs) x
      before below =
          simp (ne_eqb x id (λ e. omega arith), lt-leb (id + 1) x (omega arith), lt-leb id x below) (by_lies (lies_between lo hi v))
        where
          by_lies : (b : Bool) → ((b && false) || false) ≡ false
          by_lies true = refl
          by_lies false = refl

      same : (b : Bool) → x ≡ id → ((b && eqb x id) || listed (id + 1) vs x) ≡ (leb id x && ltb x (id + suc (length vs)) && b)
      same b is =
          simp (eq-eqb x id is, lt-leb (id + 1) x (omega arith), le-leb id x (omega arith), lt-ltb x (id + suc (length vs)) (omega arith)) (by_lies b)
        where
          by_lies : (b : Bool) → ((b && true) || false) ≡ b
          by_lies true = refl
          by_lies false = refl

      later : id < x → ((lies_between lo hi v && eqb x id) || listed (id + 1) vs x) ≡ listed id (v ∷ vs) x
      later above =
          let behind : x - id ≡ suc (x - (id + 1)) = omega arith in
          let end : id + suc (length vs) ≡ id + 1 + length vs = omega arith in
          simp (ne_eqb x id (λ e. omega arith), le-leb (id + 1) x (omega arith), le-leb id x (omega arith), behind, end) (by_lies (lies_between lo hi v) (ltb x (id + 1 + length vs) && lies_between lo hi (get_or vs (x - (id + 1)) 0)))
        where
          by_lies : (b t : Bool) → ((b && false) || t) ≡ t
          by_lies true t = refl
          by_lies false t = refl

      first_place : x - id ≡ 0 → (leb id x && ltb x (id + suc (length vs)) && lies_between lo hi v) ≡ listed id (v ∷ vs) x
      first_place none = ap (λ m. leb id x && ltb x (id + suc (length vs)) && lies_between lo hi (get_or (v ∷ vs) m 0)) (sym none)

  pub listed_exactly : (id : ℕ) (vs : List ℕ) (x : ℕ) → is_one_of x (matching_ids lo hi id vs) ≡ listed id vs x
  unfolding is_one_of matching_ids listed
  listed_exactly id [] x =
      ⊎_elim (λ above. simp (le-leb id x above, le-ltb x (id + 0) (omega arith))) (λ below. simp (lt-leb id x below)) (le_or_lt id x)
  listed_exactly id (v ∷ vs) x = by_lies (lies_between lo hi v) (listed_exactly (id + 1) vs x) ∙ first_or_later id v vs x
    where
      by_lies : (b : Bool) → is_one_of x (matching_ids lo hi (id + 1) vs) ≡ listed (id + 1) vs x
          → is_one_of x (cond b (id ∷ matching_ids lo hi (id + 1) vs) (matching_ids lo hi (id + 1) vs)) ≡ ((b && eqb x id) || listed (id + 1) vs x)
      by_lies true tail = ap (λ t. eqb x id || t) tail
      by_lies false tail = tail

  -- the first id of a list is not below the id of the first value
  above_first : (id y : ℕ) (vs ys : List ℕ) → matching_ids lo hi id vs ≡ y ∷ ys → id ≤ y
  unfolding is_one_of listed
  above_first id y vs ys is = ⊎_elim (λ up. up) (λ below. absurd (never below)) (le_or_lt id y)
    where
      never : y < id → ⊥
      never below =
          let there : is_one_of y (matching_ids lo hi id vs) ≡ true = ap (is_one_of y) is ∙ ap (λ b. b || is_one_of y ys) (eq-eqb y y refl) in
          let not_there : listed id vs y ≡ false = simp (lt-leb id y below) in
          let both : true ≡ false = sym there ∙ listed_exactly id vs y ∙ not_there in
          let z : ◌≡◌ {A = ℕ} 0 1 = cc in
          omega arith

  pub listed_ascending : (id : ℕ) (vs : List ℕ) → ascending (matching_ids lo hi id vs) ≡ true
  unfolding matching_ids ascending
  listed_ascending id [] = refl
  listed_ascending id (v ∷ vs) = by_lies (lies_between lo hi v) (matching_ids lo hi (id + 1) vs) refl (listed_ascending (id + 1) vs)
    where
      by_lies : (b : Bool) (rest : List ℕ) → matching_ids lo hi (id + 1) vs ≡ rest → ascending rest ≡ true → ascending (cond b (id ∷ rest) rest) ≡ true
      by_lies true [] is up = refl
      by_lies true (y ∷ ys) is up = ap₂ ◌&&◌ (lt-ltb id y (omega (arith, above_first (id + 1) y vs ys is))) up
      by_lies false rest is up = up

  -- the ids of a stretch of values, by the values themselves
  pub stretch_exactly : (vs : List ℕ) (start end : ℕ) → end ≤ length vs
      → (x : ℕ) → is_one_of x (matching_ids lo hi start (stretch start (end - start) vs)) ≡ (leb start x && ltb x end && lies_between lo hi (get_or vs x 0))
  unfolding listed
  stretch_exactly vs start end inside x =
      listed_exactly start (stretch start (end - start) vs) x ∙ ⊎_elim (λ up. ⊎_elim (past up) (within up) (le_or_lt end x)) before (le_or_lt start x)
    where
      n : ℕ
      n = end - start

      some : start ≤ x → length (stretch start n vs) ≡ n
      some up = length-take-le n (drop start vs) (omega (arith, length-drop start vs))

      before : x < start → listed start (stretch start (end - start) vs) x ≡ (leb start x && ltb x end && lies_between lo hi (get_or vs x 0))
      before below = simp (lt-leb start x below)

      past : start ≤ x → end ≤ x → listed start (stretch start (end - start) vs) x ≡ (leb start x && ltb x end && lies_between lo hi (get_or vs x 0))
      past up beyond = simp (le-leb start x up, le-ltb x end beyond, le-ltb x (start + length (stretch start n vs)) (omega (arith, some up)))

      within : start ≤ x → x < end → listed start (stretch start (end - start) vs) x ≡ (leb start x && ltb x end && lies_between lo hi (get_or vs x 0))
      within up below =
          let value : get_or (stretch start n vs) (x - start) 0 ≡ get_or vs x 0 =
          get_or-take n (drop start vs) (x - start) 0 (omega arith) ∙ get_or-drop start vs (x - start) 0 ∙ ap (λ m. get_or vs m 0) (omega arith) in
          simp (le-leb start x up, lt-ltb x end below, lt-ltb x (start + length (stretch start n vs)) (omega (arith, some up)), value)

-- ---- two ascending lists with the same members

both : (a b : Bool) → (a && b) ≡ true → (a ≡ true) × (b ≡ true)
both true b h = (refl, h)
both false b h = absurd (let z : ◌≡◌ {A = ℕ} 0 1 = cc in omega arith)

true_is_not_false : true ≡ false → ⊥
true_is_not_false h = let z : ◌≡◌ {A = ℕ} 0 1 = cc in omega arith

-- nothing up to the first of an ascending list is among the others
ascending_rest : (x : ℕ) (xs : List ℕ) → ascending (x ∷ xs) ≡ true → ascending xs ≡ true
unfolding ascending
ascending_rest x [] up = refl
ascending_rest x (y ∷ ys) up = (both (ltb x y) (ascending (y ∷ ys)) up).1

not_behind : (id x : ℕ) (xs : List ℕ) → ascending (x ∷ xs) ≡ true → id ≤ x → is_one_of id xs ≡ false
unfolding ascending is_one_of
not_behind id x [] up under = refl
not_behind id x (y ∷ ys) up under =
    let here = both (ltb x y) (ascending (y ∷ ys)) up in
    let below : x < y = ltb-true x y here.0 in
    ap₂ ◌||◌ (ne_eqb id y (λ e. omega arith)) (not_behind id y ys here.1 (omega arith))

first_is_one : (x : ℕ) (xs : List ℕ) → is_one_of x (x ∷ xs) ≡ true
unfolding is_one_of
first_is_one x xs = ap (λ b. b || is_one_of x xs) (eq-eqb x x refl)

-- so the first of one is not below the first of the other
not_below : (x : ℕ) (xs : List ℕ) (y : ℕ) (ys : List ℕ) → ascending (y ∷ ys) ≡ true → is_one_of x (x ∷ xs) ≡ is_one_of x (y ∷ ys) → x < y → ⊥
unfolding is_one_of
not_below x xs y ys up same below =
    true_is_not_false
    (sym (first_is_one x xs) ∙ same ∙ ap₂ ◌||◌ (ne_eqb x y (λ e. omega arith)) (not_behind x y ys up (omega arith)))

-- and past it the members are the same
same_rest : (x : ℕ) (xs ys : List ℕ) → ascending (x ∷ xs) ≡ true → ascending (x ∷ ys) ≡ true → ((id : ℕ) → is_one_of id (x ∷ xs) ≡ is_one_of id (x ∷ ys))
    → (id : ℕ) → is_one_of id xs ≡ is_one_of id ys
unfolding is_one_of
same_rest x xs ys up other-up same id =
    ⊎_elim (λ under. not_behind id x xs up under ∙ sym (not_behind id x ys other-up under))
    (λ above.
    let other = ne_eqb id x (λ e. omega arith) in
    sym (ap (λ b. b || is_one_of id xs) other) ∙ same id ∙ ap (λ b. b || is_one_of id ys) other)
    (le_or_lt id x)

pub only_one_list : OnlyOneList
unfolding is_one_of
only_one_list [] [] up other-up same = refl
only_one_list [] (y ∷ ys) up other-up same = absurd (true_is_not_false (sym (same y ∙ first_is_one y ys)))
only_one_list (x ∷ xs) [] up other-up same = absurd (true_is_not_false (sym (first_is_one x xs) ∙ same x))
only_one_list (x ∷ xs) (y ∷ ys) up other-up same =
    let first : x ≡ y =
    ⊎_elim (λ le. ⊎_elim (λ ge. le_antisymm le ge) (λ below. absurd (not_below x xs y ys other-up (same x) below)) (le_or_lt y x))
    (λ below. absurd (not_below y ys x xs up (sym (same y)) below)) (le_or_lt x y) in
    let others-up : ascending (x ∷ ys) ≡ true = subst (λ z. ascending (z ∷ ys) ≡ true) (sym first) other-up in
    let same_first : (id : ℕ) → is_one_of id (x ∷ xs) ≡ is_one_of id (x ∷ ys) = λ id. same id ∙ ap (λ z. is_one_of id (z ∷ ys)) (sym first) in
    ap₂ (λ z l. z ∷ l) first
    (only_one_list xs ys (ascending_rest x xs up) (ascending_rest y ys other-up) (same_rest x xs ys up others-up same_first))
