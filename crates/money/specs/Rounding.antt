-- Rule 1.5: to nearest, a half to the even neighbour. What becomes of a half stands in `up_of` alone.
use Rattle.std.specs.Prelude.{ℕ, suc, ◌+◌, ◌*◌, ◌/◌, ◌%◌, min, Bool, cond, ◌&&◌, leb, ltb, eqb, ℤ, pos, negsuc, neg_ℤ, nat_abs, ◌*ℤ◌}
use Rattle.money.specs.Pounds.{most_whole}

-- what the rest of a division by d adds to its quotient q: 1 where it rounds up, else 0. A half rounds up where q is odd
unfoldable pub up_of : ℕ → ℕ → ℕ → ℕ
up_of q rest d = cond (ltb d (2 * rest)) 1 (cond (eqb d (2 * rest)) (q % 2) 0)

-- a rest that is below its divisor, and a divisor of at most 10^12; so it is not 0
abbrev pub is_rest : ℕ → ℕ → Bool
is_rest rest divisor = ltb rest divisor && leb divisor 1000000000000

-- the rule on a quotient, a rest and a divisor: the quotient with what the rest adds, saturated at 64 bits; else 0
unfoldable pub rounded_of : ℕ → ℕ → ℕ → ℕ
rounded_of quotient rest divisor = cond (is_rest rest divisor) (min (quotient + up_of quotient rest divisor) most_whole) 0

-- n / d to nearest
unfoldable pub round_div : ℕ → ℕ → ℕ
round_div n d = n / d + up_of (n / d) (n % d) d

-- f of the magnitude, the sign restored
unfoldable pub on_magnitude : (ℕ → ℕ) → ℤ → ℤ
on_magnitude f (pos n) = pos (f n)
on_magnitude f (negsuc n) = neg_ℤ (pos (f (suc n)))

-- z / d to nearest
unfoldable pub round_z : ℤ → ℕ → ℤ
round_z z d = on_magnitude (λ (n : ℕ). round_div n d) z

-- ---- a number times a factor, over a divisor, rounded
abbrev pub in_reach : ℤ → ℕ → ℕ → Bool
in_reach z by over = leb (nat_abs z) 10000000000 && (leb by 900000000 && ltb 0 over)

unfoldable pub scaled_of : ℤ → ℕ → ℕ → ℤ
scaled_of z by over = cond (in_reach z by over) (round_z (z *ℤ pos by) over) (pos 0)
