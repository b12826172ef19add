-- Money is whole pounds (rule 1.3), in the range of 64 bits.
use Rattle.std.specs.Prelude.{Bool, ℕ, min, eqb, ℤ, pos, negsuc, nat_abs}

-- the most that fits 64 bits; the least is one further from zero
abbrev pub most_pounds : ℕ
most_pounds = 9223372036854775807

-- the most that fits 64 bits without a sign
abbrev pub most_whole : ℕ
most_whole = 18446744073709551615

-- saturated: the number itself, or the end of the range that it lies past
abbrev pub saturated : ℤ → ℤ
saturated (pos n) = pos (min n most_pounds)
saturated (negsuc n) = negsuc (min n most_pounds)

-- nothing: an amount of 0
abbrev pub is_none : ℤ → Bool
is_none z = eqb (nat_abs z) 0
