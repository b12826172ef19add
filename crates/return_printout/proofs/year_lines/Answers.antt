-- The figures of a year are those that the log and the calendar give for it.
use Rattle.std.proofs.Common.{◌≡◌, ℕ, ℤ, [], sym, ap, ◌∙◌, SFits, w64, rules, to_z-of_z}
use Rattle.refusals.specs.Refusals.{given_or}
use Rattle.calendar.specs.declared.YearMinutes.{YearMinutes}
use Rattle.calendar.specs.Years.{year_start, year_end, no_minutes}
use Rattle.outage.specs.Log.{last_regime_end}
use Rattle.outage.specs.Calls.{lost_of}
use Rattle.text.specs.Text.{pushed, text_of}
use Rattle.return_printout.specs.Printout.{lost_in_year, lost_after, year_lines}
use Rattle.return_printout.proofs.YearLines.{minutes_is, lost_is, after_is}
use Rattle.return_printout.proofs.year_lines.Goals as goal

pub returns : goal.returns
returns c =
    let y = c.args.y in
    let v = c.requires in
    let z = c.args.pounds in
    let x : SFits w64 z = search rules in
    let figures : c.unwrap-minutes.result ≡ record { first = year_start y.number; end = year_end y.number last_regime_end } =
    sym (ap (given_or no_minutes) c.unwrap-minutes.ensures) ∙ c.year_minutes.ensures.1 ∙ minutes_is y v in
    let lost : c.lost_between-lost.result ≡ lost_in_year y =
    c.lost_between-lost.ensures ∙ ap (λ (m : YearMinutes). lost_of y.log m.first m.end) figures ∙ lost_is y v in
    let carried : c.lost_between-carried.result ≡ lost_after y =
    c.lost_between-carried.ensures ∙ ap (λ (m : YearMinutes). lost_of y.log m.end last_regime_end) figures ∙ after_is y v in
    c.lines_of.ensures
    ∙ ap (λ (w : ℤ). pushed (text_of []) (year_lines y.number c.lost_between-lost.result c.lost_between-carried.result w)) (to_z-of_z x)
    ∙ ap (λ (n : ℕ). pushed (text_of []) (year_lines y.number n c.lost_between-carried.result z)) lost
    ∙ ap (λ (n : ℕ). pushed (text_of []) (year_lines y.number (lost_in_year y) n z)) carried
