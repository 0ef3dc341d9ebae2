-- Document 01, "Widths": "The width of n is 64 less the count of leading zeros; where that is above 56 it is 64. A legal reading width is
-- 0..56 or 64. The packer takes 0..64."
use Rattle.std.specs.Prelude.{ℕ, ◌-◌, Bool, ◌||◌, cond, leb, ltb, eqb}
use Rattle.std.specs.Int.Count.{count_leading_zeros}

abbrev pub legal_width : ℕ → Bool
legal_width w = leb w 56 || eqb w 64

abbrev pub packer_width : ℕ → Bool
packer_width w = leb w 64

-- 64 less the count of leading zeros: how many binary digits n has
unfoldable pub digits_of : ℕ → ℕ
digits_of n = 64 - count_leading_zeros 64 n

unfoldable pub width_of : ℕ → ℕ
width_of n = cond (ltb 56 (digits_of n)) 64 (digits_of n)
