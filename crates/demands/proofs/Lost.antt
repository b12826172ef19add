-- What `lost_energy` answers on a log that keeps every rule, for any stretch and for a year. Assumes nothing.
use mathlib.Core.Path.{◌≡◌, refl, ap, ◌∙◌}
use mathlib.Core.Bool.{true}
use Prim.Native.Nat.{ℕ, ◌+◌, ◌-◌, ◌*◌, ◌≤◌}
use native.Mathlib.Omega.{arith}
use borrow.Author.Tests.{leb-true}
use lib.Dec.{leb}
use Rattle.std.specs.Prelude.{Result, Ok}
use Rattle.refusals.specs.declared.Refusal.{Refusal}
use Rattle.refusals.specs.Refusals.{given_or}
use Rattle.lists.specs.Lists.{sum_from}
use Rattle.lists.proofs.Tests.{and_left, and_right}
use Rattle.lists.proofs.Lists.{sum_cut}
use Rattle.calendar.specs.declared.YearMinutes.{YearMinutes}
use Rattle.calendar.specs.Years.{year_start, year_end, minutes_of, no_minutes, good_year_number, last_year, MinutesGives}
use Rattle.calendar.proofs.Laws.{year_within}
use Rattle.entries.specs.Row.{lost_in}
use Rattle.outage.specs.declared.Log.{Log}
use Rattle.outage.specs.Log.{most_mw, first_regime_end, last_regime_end, valid_log, log_entries, lost_energy}
use Rattle.outage.specs.Calls.{LostGives}
use Rattle.outage.proofs.LogHolding.{valid_end}
use Rattle.outage.proofs.Only.{only_lost}
use Rattle.outage.proofs.Most.{valid_stretch, lost_given}
use Rattle.demands.specs.Given.{first_figure, end_figure}

module _ (log : Log) (v : valid_log log ≡ true) where
  pub by_minutes : (a b : ℕ) → a ≤ b → b ≤ log.regime_end → (r : Result ℕ Refusal) → LostGives log a b r → r ≡ Ok (lost_energy a b (log_entries log))
  by_minutes a b h k r g = only_lost log a b r (Ok (lost_energy a b (log_entries log))) g (lost_given log a b v h k)

  -- a stretch cut at any minute
  pub parts_add : (a m b : ℕ) → a ≤ m → m ≤ b → lost_energy a m (log_entries log) + lost_energy m b (log_entries log) ≡ lost_energy a b (log_entries log)
  parts_add a m b h k =
      let f = lost_in (log_entries log) in
      let n : b - a ≡ (m - a) + (b - m) = omega arith in
      let e : a + (m - a) ≡ m = omega arith in
      omega (arith, sum_cut f a (m - a) (b - m), ap (λ (x : ℕ). sum_from a x f) n, ap (λ (x : ℕ). sum_from x (b - m) f) e)

  -- a year, by the minutes that `year_minutes` gives
  module _ (number : ℕ) (good : good_year_number number ≡ true) (y : Result YearMinutes Refusal) (m : MinutesGives number log.regime_end y) where
    minutes_are : given_or no_minutes y ≡ minutes_of number log.regime_end
    minutes_are = m.1 ∙ rw good refl

    pub first_is : first_figure y ≡ year_start number
    first_is = ap (λ (x : YearMinutes). x.first) minutes_are

    pub end_is : end_figure y ≡ year_end number log.regime_end
    end_is = ap (λ (x : YearMinutes). x.end) minutes_are

    year_inside : (year_start number ≤ year_end number log.regime_end) × (year_end number log.regime_end ≤ log.regime_end)
    year_inside =
        let re = log.regime_end in
        let from_First = leb-true first_regime_end re (and_left (leb first_regime_end re) (leb re last_regime_end) (valid_end log v)) in
        year_within re number (omega arith) (leb-true 1 number (and_left (leb 1 number) (leb number last_year) good)) (leb-true number last_year (and_right (leb 1 number) (leb number last_year) good))

    pub year_lost : (r : Result ℕ Refusal) → LostGives log (first_figure y) (end_figure y) r → r ≡ Ok (lost_energy (first_figure y) (end_figure y) (log_entries log))
    year_lost r g = by_minutes (first_figure y) (end_figure y) (omega (arith, first_is, end_is, year_inside)) (omega (arith, end_is, year_inside)) r g

    pub year_most : lost_energy (first_figure y) (end_figure y) (log_entries log) ≤ most_mw * (end_figure y - first_figure y)
    year_most = valid_stretch log v (first_figure y) (end_figure y)
