-- The rest of a slice, lent as `s[a..]`: what it is, and what the slice is once it is back.
use mathlib.Core.Path.{◌≡◌, ap, ◌∙◌}
use mathlib.Core.List.{List, ◌++◌, append-nil}
use Prim.Native.Nat.{ℕ, ◌-◌, ◌≤◌}
use native.Mathlib.Omega.{arith}
use lib.ListN.{length, take, drop, length-drop}
use lib.Seq.{take_all, drop-length}
use borrow.Rule.Slice.PartMut.{mid_of, put_mid, Post-is}

-- the rest from a on
abbrev pub rest_from : ℕ → List ℕ → List ℕ
rest_from a xs = mid_of a (length xs - a) xs

pub rest_from_is : (a : ℕ) (xs : List ℕ) → rest_from a xs ≡ drop a xs
rest_from_is a xs = take_all (length xs - a) (drop a xs) (simp length-drop (omega arith))

pub length-rest_from : (a : ℕ) (xs : List ℕ) → length (rest_from a xs) ≡ length xs - a
length-rest_from a xs = ap length (rest_from_is a xs) ∙ length-drop a xs

-- other elements in its place
pub put_rest : (a : ℕ) (xs ys : List ℕ) → a ≤ length xs → put_mid a (length xs - a) xs ys ≡ take a xs ++ ys
put_rest a xs ys within =
    ap (λ l. take a xs ++ (ys ++ l)) (Post-is a (length xs) xs within ∙ drop-length xs) ∙ ap (λ l. take a xs ++ l) (append-nil ys)
