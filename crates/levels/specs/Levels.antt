-- Cap and floor levels: rules, section 6 (SC2 4).
use Rattle.std.specs.Prelude.{Bool, cond, not, ◌&&◌, ◌||◌, [], ◌∷◌, ◌≡◌, ℕ, ◌*◌, leb, Result, ℤ, pos, nat_abs, ◌*ℤ◌}
use Rattle.refusals.specs.Refusals.{Rows, accepted, first_applicable, answer_number, given_or}
use Rattle.refusals.specs.declared.Refusal.{Refusal}
use Rattle.refusals.specs.declared.Refusal.TheVariants.{BadBook, BrokenLog, BadYear, TooLarge}
use Rattle.money.specs.Rounding.{round_z}
use Rattle.outage.specs.declared.Log.{Log}
use Rattle.outage.specs.Log.{valid_log}
use Rattle.year.specs.declared.Year.{Year}
use Rattle.year.specs.Year.{good_year}
use Rattle.levels.specs.declared.Book.{Book}
use Rattle.levels.specs.declared.levelling.Levels.{Levels}
use Rattle.levels.specs.Book.{book_holds, cap_sum, floor_sum}
use Rattle.levels.specs.Availability.{meets_target}

-- rule 6.2: the sum times three factors in ten-thousandths, rounded once
unfoldable pub level_of : ℕ → ℤ → ℕ → ℕ → ℤ
level_of partial sum incentive pppi = round_z (sum *ℤ pos (partial * incentive * pppi)) 1000000000000

-- rule 6.3: the incentive at floor (SC4 16)
abbrev pub aif_of : Bool → Bool → ℕ → ℕ
aif_of met exceptional miss_factor = cond (met || exceptional) 10000 miss_factor

-- SC2 4(a): cap = PYC x (PCL + PCAC + ORAC) x AIC x PPPI
abbrev pub cap_level : Book → Year → ℤ
cap_level book y = level_of y.pyc (cap_sum book) y.aic y.pppi

-- SC2 4(b): floor = PYF x (PFL + PCAF + ORAF) x AIF x PPPI
abbrev pub floor_level : Book → Year → ℕ → ℤ
floor_level book y aif = level_of y.pyf (floor_sum book) aif y.pppi

abbrev pub floor_of : Book → Year → Log → ℤ
floor_of book y log = floor_level book y (aif_of (meets_target book log y.number) y.exceptional book.miss_factor)

-- ---- the call. Rule 12.1, 11: no level is above 10^9
abbrev pub level_fits : ℤ → Bool
level_fits z = leb (nat_abs z) 1000000000

abbrev pub levels_rows : Book → Year → Log → Rows
levels_rows book y log =
    (BadBook, not (book_holds book log.regime_end))
    ∷ (BrokenLog, not (valid_log log))
    ∷ (BadYear, not (good_year y))
    ∷ (TooLarge, not (level_fits (cap_level book y) && level_fits (floor_of book y log)))
    ∷ []

-- rule 12.4: what is given beside a refusal
abbrev pub no_levels : Levels
no_levels = record { cap = pos 0; floor = pos 0 }

abbrev pub levels_given : Book → Year → Log → Levels
levels_given book y log = cond (accepted (levels_rows book y log)) (record { cap = cap_level book y; floor = floor_of book y log }) no_levels

-- what `levels_of` promises of its result
abbrev pub LevelsGives : Book → Year → Log → Result Levels Refusal → Type 0
LevelsGives book y log r = (answer_number r ≡ first_applicable (levels_rows book y log)) × (given_or no_levels r ≡ levels_given book y log)
