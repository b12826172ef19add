-- A period as a workbook keeps it: rule 19.2.
use Rattle.std.specs.Prelude.{Bool, false, ◌&&◌, ℕ, ◌+◌, leb, eqb, pos, Float, Option, Some, None, unwrap_or}
use Rattle.std.specs.Float.{fin, binary64}
use Rattle.std.specs.Float.Ieee.{round, of_int}
use Rattle.settlement.specs.declared.medians.Period.{Period}
use Rattle.floats.specs.Floats.{whole_day, half_days}
use Rattle.median_period.specs.declared.MedianPeriod.{MedianPeriod}

-- ---- its days
-- a float as a day, 0 where it is none
abbrev pub day_or : Float → ℕ
day_or x = unwrap_or (whole_day x) 0

abbrev pub days_of : MedianPeriod → Period
days_of p = record { first = day_or p.first; last = day_or p.last }

-- ---- whole days in range, the last not before the first, and twice the median is their sum
abbrev pub days_agree : Option ℕ → Option ℕ → Option ℕ → Bool
days_agree None last twice = false
days_agree (Some a) None twice = false
days_agree (Some a) (Some b) None = false
days_agree (Some a) (Some b) (Some k) = leb a b && eqb k (a + b)

abbrev pub good_medians : MedianPeriod → Bool
good_medians p = days_agree (whole_day p.first) (whole_day p.last) (half_days p.median)

-- ---- the floats of two days and of half their sum, each the nearest to its number
abbrev pub medians_of : ℕ → ℕ → MedianPeriod
medians_of a b = record { first = of_int binary64 (pos a); last = of_int binary64 (pos b); median = round binary64 false (a + b) 2 }

-- rule 12.3: three times 0.0
abbrev pub no_medians : MedianPeriod
no_medians = record { first = fin false 0 (pos 0); last = fin false 0 (pos 0); median = fin false 0 (pos 0) }
