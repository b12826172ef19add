-- What the licence book holds: rules, section 3.
use Rattle.std.specs.Prelude.{Bool, cond, ◌&&◌, ℕ, leb, eqb, ℤ, pos, nat_abs, ◌+ℤ◌}
use Rattle.std.specs.Int.Signed.{non_neg}
use Rattle.calendar.specs.Years.{last_year}
use Rattle.outage.specs.Log.{good_regime_end, last_regime_end}
use Rattle.levels.specs.declared.Book.{Book}

-- rule 3.2: the fresh book
abbrev pub published_book : Book
published_book = record {
  regime_end = last_regime_end;
  first_target = 0;
  last_target = 0;
  pcl = pos 83806402;
  pfl = pos 48807317;
  pcac = pos 0;
  pcaf = pos 0;
  orac = pos 0;
  oraf = pos 0;
  miss_factor = 0;
}

-- ---- the ranges
-- rule 3.1: a target that is entered
abbrev pub good_target : ℕ → Bool
good_target target = leb target 20000000

abbrev pub good_book_amount : ℤ → Bool
good_book_amount z = leb (nat_abs z) 1000000000

-- rule 3.1: a preliminary level, its two adjustments and their sum
abbrev pub good_sum : ℤ → ℤ → ℤ → Bool
good_sum preliminary construction opex =
    (non_neg preliminary && good_book_amount preliminary)
    && (good_book_amount construction
    && (good_book_amount opex && (non_neg (preliminary +ℤ construction +ℤ opex) && good_book_amount (preliminary +ℤ construction +ℤ opex))))

-- rule 3.1: the floor factor on a miss
abbrev pub good_factor : ℕ → Bool
good_factor factor = leb factor 10000

abbrev pub good_numbers : Book → Bool
good_numbers b = good_regime_end b.regime_end && (good_target b.first_target && (good_target b.last_target && good_factor b.miss_factor))

unfoldable pub good_book : Book → Bool
good_book b = good_numbers b && (good_sum b.pcl b.pcac b.orac && good_sum b.pfl b.pcaf b.oraf)

-- rule 3.3: the book is in range, and the log beside it runs to the same regime end
abbrev pub book_holds : Book → ℕ → Bool
book_holds b regime_end = good_book b && eqb b.regime_end regime_end

-- ---- SC2 4: PCL + PCAC + ORAC, and PFL + PCAF + ORAF
abbrev pub cap_sum : Book → ℤ
cap_sum b = b.pcl +ℤ b.pcac +ℤ b.orac

abbrev pub floor_sum : Book → ℤ
floor_sum b = b.pfl +ℤ b.pcaf +ℤ b.oraf

-- ---- rule 5.3: a year's target (SC4 12), of years 1 and 25 as entered (SC4 27 to 31)
abbrev pub target_of : Book → ℕ → ℕ
target_of b number = cond (eqb number 1) b.first_target (cond (eqb number last_year) b.last_target 7012800)
