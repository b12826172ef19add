-- Availability and its target: rules 5.2 to 5.4.
use Rattle.std.specs.Prelude.{Bool, false, cond, not, [], ◌∷◌, ◌≡◌, ℕ, ◌-◌, ◌*◌, leb, Result}
use Rattle.refusals.specs.Refusals.{Rows, accepted, first_applicable, answer_number, given_or}
use Rattle.refusals.specs.declared.Refusal.{Refusal}
use Rattle.refusals.specs.declared.Refusal.TheVariants.{BadBook, BrokenLog, BadYear}
use Rattle.calendar.specs.Years.{year_start, year_end, good_year_number}
use Rattle.outage.specs.declared.Log.{Log}
use Rattle.outage.specs.Log.{valid_log, log_entries, lost_energy, most_mw}
use Rattle.levels.specs.declared.Book.{Book}
use Rattle.levels.specs.Book.{book_holds, target_of}

-- rule 5.2: what the cable could carry in a year, less what was lost in it (SC4 18)
abbrev pub availability_in : Log → ℕ → ℕ
availability_in log number =
    most_mw * (year_end number log.regime_end - year_start number) - lost_energy (year_start number) (year_end number log.regime_end) (log_entries log)

-- rule 5.3: MWh against MW-minutes; equality is enough (SC4 16)
abbrev pub meets_target : Book → Log → ℕ → Bool
meets_target book log number = leb (60 * target_of book number) (availability_in log number)

-- ---- the calls
abbrev pub availability_rows : Book → Log → ℕ → Rows
availability_rows book log number =
    (BadBook, not (book_holds book log.regime_end)) ∷ (BrokenLog, not (valid_log log)) ∷ (BadYear, not (good_year_number number)) ∷ []

abbrev pub availability_given : Book → Log → ℕ → ℕ
availability_given book log number = cond (accepted (availability_rows book log number)) (availability_in log number) 0

-- what `availability_of` promises of its result
abbrev pub AvailabilityGives : Book → Log → ℕ → Result ℕ Refusal → Type 0
AvailabilityGives book log number r = (answer_number r ≡ first_applicable (availability_rows book log number)) × (given_or 0 r ≡ availability_given book log number)

-- beside a refusal the target is not met
abbrev pub target_given : Book → Log → ℕ → Bool
target_given book log number = cond (accepted (availability_rows book log number)) (meets_target book log number) false

-- what `check_target` promises of its result, which is true where the target is met
abbrev pub TargetGives : Book → Log → ℕ → Result Bool Refusal → Type 0
TargetGives book log number r = (answer_number r ≡ first_applicable (availability_rows book log number)) × (given_or false r ≡ target_given book log number)
