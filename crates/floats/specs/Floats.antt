-- What a 64-bit float says, exactly: rules 19.1 and 19.2. A finite float is m times a power of two, `up e` over `down e`.
use Rattle.std.specs.Prelude.{ℕ, ◌*◌, ◌/◌, ◌%◌, Bool, true, false, cond, ◌&&◌, ℤ, pos, negsuc, neg_ℤ, ◌==◌, nat_le, unsigned_abs, Float, Option, Some, None}
use Rattle.std.specs.Float.{nan, inf, fin}
use Rattle.std.specs.Float.Ieee.{up, down}

-- a size with its sign: minus zero is 0
abbrev pub signed : Bool → ℕ → ℤ
signed false n = pos n
signed true n = neg_ℤ (pos n)

-- rule 19.1: c times what a float says, where that is a whole number
unfoldable pub times_of : ℕ → Float → Option ℤ
times_of c nan = None
times_of c (inf s) = None
times_of c (fin s m e) = cond (m * up e * c % down e == 0) (Some (signed s (m * up e * c / down e))) None

-- the whole number that it is
abbrev pub whole_in : Float → Option ℤ
whole_in x = times_of 1 x

-- ---- in a range
abbrev pub within : ℕ → Option ℤ → Option ℤ
within most None = None
within most (Some z) = cond (nat_le (unsigned_abs z) most) (Some z) None

abbrev pub between : ℕ → ℕ → Option ℤ → Option ℕ
between least most None = None
between least most (Some (negsuc n)) = None
between least most (Some (pos n)) = cond (nat_le least n && nat_le n most) (Some n) None

-- rule 19.4: no amount of a workbook is larger
abbrev pub most_pounds : ℕ
most_pounds = 30000000000

-- the whole pounds that a float is
abbrev pub whole_pounds : Float → Option ℤ
whole_pounds x = within most_pounds (whole_in x)

-- rule 19.2: the day number that a float is, and twice the one that may end in a half
abbrev pub whole_day : Float → Option ℕ
whole_day x = between 61 73050 (whole_in x)

abbrev pub half_days : Float → Option ℕ
half_days x = between 122 146100 (times_of 2 x)
