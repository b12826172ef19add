-- What the availability of a year comes to, from what the calendar and the log answered. Assumes nothing.
use mathlib.Core.Path.{◌≡◌, refl, sym, ◌∙◌}
use mathlib.Core.Bool.{Bool, true, false}
use Prim.Native.Nat.{ℕ, ◌-◌, ◌*◌, ◌≤◌}
use native.Mathlib.Omega.{arith}
use borrow.Author.Tests.{leb-true}
use lib.Dec.{leb}
use Rattle.std.specs.Prelude.{Ok, Err}
use Rattle.lists.proofs.Tests.{and_left, and_right, not_no}
use Rattle.refusals.specs.declared.Refusal.{Refusal}
use Rattle.refusals.specs.Refusals.{first_applicable}
use Rattle.refusals.proofs.Laws.{all_clear, never_zero}
use Rattle.refusals.proofs.Cases.{refused_meets}
use Rattle.calendar.specs.declared.YearMinutes.{YearMinutes}
use Rattle.calendar.specs.Years.{last_year, good_year_number, minutes_rows, minutes_given}
use Rattle.calendar.proofs.Laws.{year_within}
use Rattle.outage.specs.declared.Log.{Log}
use Rattle.outage.specs.Log.{first_regime_end, last_regime_end, valid_log, log_entries, lost_energy, most_mw}
use Rattle.outage.specs.Calls.{lost_rows, LostGives}
use Rattle.outage.proofs.LogHolding.{valid_end}
use Rattle.outage.proofs.Most.{lost_given, valid_stretch}
use Rattle.levels.specs.declared.Book.{Book}
use Rattle.levels.specs.Book.{book_holds}
use Rattle.levels.specs.Availability.{availability_in, availability_rows, AvailabilityGives}

-- ---- a year in a valid log
late : (log : Log) → valid_log log ≡ true → first_regime_end ≤ log.regime_end
late log v =
    let re = log.regime_end in
    leb-true first_regime_end re (and_left (leb first_regime_end re) (leb re last_regime_end) (valid_end log v))

-- its minutes, from 0 to 0 beside a refusal
stretch : (log : Log) (number : ℕ) → valid_log log ≡ true → ((minutes_given number log.regime_end).first ≤ (minutes_given number log.regime_end).end) × ((minutes_given number log.regime_end).end ≤ log.regime_end)
stretch log number v = by (good_year_number number) refl
  where
    by : (b : Bool) → good_year_number number ≡ b → ((minutes_given number log.regime_end).first ≤ (minutes_given number log.regime_end).end) × ((minutes_given number log.regime_end).end ≤ log.regime_end)
    by false e = simp e (omega arith, omega arith)
    by true e =
        simp e
        (year_within log.regime_end number (omega (arith, late log v))
        (leb-true 1 number (and_left (leb 1 number) (leb number last_year) e))
        (leb-true number last_year (and_right (leb 1 number) (leb number last_year) e)))

-- ---- what the calendar and the log answered for a year
module _ (book : Book) (log : Log) (number : ℕ) {s : YearMinutes} (is : s ≡ minutes_given number log.regime_end) where
  -- a figure says that the log is valid, and is the energy lost
  module _ {x : ℕ} (g : LostGives log s.first s.end (Ok x)) where
    lost_valid : valid_log log ≡ true
    lost_valid = not_no (valid_log log) (all_clear (lost_rows log s.first s.end) (sym g.0)).0

    within : (s.first ≤ s.end) × (s.end ≤ log.regime_end)
    within = rw is (stretch log number lost_valid)

    lost_is : x ≡ lost_energy s.first s.end (log_entries log)
    lost_is = g.1 ∙ sym (lost_given log s.first s.end lost_valid within.0 within.1).1

    pub lost_within : (s.first ≤ s.end) × (x ≤ most_mw * (s.end - s.first))
    lost_within = (within.0, rw lost_is (valid_stretch log lost_valid s.first s.end))

  -- a refusal, that it is broken
  lost_refused : (why : Refusal) → LostGives log s.first s.end (Err why) → valid_log log ≡ false
  lost_refused why g = by (valid_log log) refl
    where
      by : (b : Bool) → valid_log log ≡ b → b ≡ false
      by true v =
          let w : (s.first ≤ s.end) × (s.end ≤ log.regime_end) = rw is (stretch log number v) in
          absurd (omega (arith, never_zero why, g.0, (lost_given log s.first s.end v w.0 w.1).0))
      by false v = refl

  module _ (h : book_holds book log.regime_end ≡ true) where
    pub gives_no_lost : (why : Refusal) → LostGives log s.first s.end (Err why) → AvailabilityGives book log number (Err why)
    gives_no_lost why g =
        let v = lost_refused why g in
        refused_meets 0 (availability_rows book log number) (availability_in log number) why (simp (h, v) (simp v at g.0))

    pub gives_figure : {x : ℕ} → LostGives log s.first s.end (Ok x) → 0 ≡ first_applicable (minutes_rows number) → AvailabilityGives book log number (Ok (most_mw * (s.end - s.first) - x))
    gives_figure g e =
        let y : good_year_number number ≡ true = not_no (good_year_number number) (all_clear (minutes_rows number) (sym e)).0 in
        let v = lost_valid g in
        rw (lost_is g) (rw is (simp (h, v, y) (refl, refl)))
