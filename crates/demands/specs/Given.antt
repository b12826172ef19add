-- What answers give, and beside a refusal what stands for that: zeros, a target that is not met. Short words for the demands.
use Rattle.std.specs.Prelude.{Bool, false, [], ℕ, ℤ, Result}
use Rattle.refusals.specs.declared.Refusal.{Refusal}
use Rattle.refusals.specs.Refusals.{given_or}
use Rattle.calendar.specs.declared.YearMinutes.{YearMinutes}
use Rattle.calendar.specs.Years.{no_minutes}
use Rattle.outage.specs.declared.Log.{Log}
use Rattle.outage.specs.Log.{last_regime_end, log_holding}
use Rattle.levels.specs.declared.levelling.Levels.{Levels}
use Rattle.levels.specs.Levels.{no_levels}
use Rattle.balances.specs.declared.assessing.Figures.{Figures}
use Rattle.balances.specs.Assessment.{no_figures}

-- the first minute of a year, and the minute that it ends at
abbrev pub first_figure : Result YearMinutes Refusal → ℕ
first_figure r = (given_or no_minutes r).first

abbrev pub end_figure : Result YearMinutes Refusal → ℕ
end_figure r = (given_or no_minutes r).end

abbrev pub target_met : Result Bool Refusal → Bool
target_met r = given_or false r

abbrev pub cap_figure : Result Levels Refusal → ℤ
cap_figure r = (given_or no_levels r).cap

abbrev pub floor_figure : Result Levels Refusal → ℤ
floor_figure r = (given_or no_levels r).floor

abbrev pub assess_figures : Result Figures Refusal → Figures
assess_figures r = given_or no_figures r

-- the empty log that was asked for, to the last regime end where that is refused
abbrev pub made_log : Result Log Refusal → Log
made_log r = given_or (log_holding last_regime_end []) r
