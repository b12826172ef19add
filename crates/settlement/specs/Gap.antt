-- The gap of two periods: rules 9.1 and 9.2 (methodology, tables 1 and 2: mmp, msp, mrp, x and y).
use Rattle.std.specs.Prelude.{Bool, ◌&&◌, ℕ, ◌+◌, leb, ℤ, pos, ◌-ℤ◌, ◌*ℤ◌}
use Rattle.std.specs.Int.Signed.{le_z}
use Rattle.money.specs.Rounding.{round_z}
use Rattle.settlement.specs.declared.medians.Period.{Period}

-- rule 9.1: days in range, the last not before the first
abbrev pub good_period : Period → Bool
good_period p = leb 61 p.first && (leb p.first p.last && leb p.last 73050)

-- rule 9.1: twice the median
abbrev pub day_sum : Period → ℕ
day_sum p = p.first + p.last

-- rule 9.2: n, from the two sums of days
unfoldable pub hundredths : ℕ → ℕ → ℤ
hundredths earlier later = round_z ((pos later -ℤ pos earlier) *ℤ pos 200) 1461

-- rule 9.2: the n that are settled
abbrev pub good_hundredths : ℤ → Bool
good_hundredths n = le_z (pos 0) n && le_z n (pos 499)
