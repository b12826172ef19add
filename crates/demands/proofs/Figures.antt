-- The marked figures, all under one theorem: each by a result that meets what the call promises. Assumes nothing.
use mathlib.Core.Path.{◌≡◌, refl, sym, ap, ◌∙◌}
use mathlib.Core.Bool.{Bool, true, false, cond, not, ◌&&◌}
use mathlib.Core.List.{[], ◌∷◌, List, map}
use Rattle.std.specs.Prelude.{Some, Result, Ok, Err}
use Rattle.refusals.specs.declared.Refusal.{Refusal}
use Rattle.refusals.specs.declared.RefusedAt.{RefusedAt}
use Prim.Native.Nat.{ℕ, ◌+◌, ◌-◌, ◌*◌, suc, ◌/◌}
use native.Mathlib.Omega.{arith}
use lib.Dec.{leb, eqb, leb-zero, lit≤}
use lib.IntN.{ℤ, pos, negsuc, neg_ℤ}
use lib.ListN.{get_or}
use Rattle.lists.proofs.Tests.{and_made}
use Rattle.refusals.specs.Refusals.{first_applicable, answer_number, given_or, why_alone, part_number}
use Rattle.refusals.specs.declared.Refusal.TheVariants.{TooLarge, BadPeriod}
use Rattle.money.specs.Rounding.{up_of, round_div, on_magnitude, round_z}
use Rattle.calendar.specs.Years.{days_to, year_start, year_end}
use Rattle.entries.specs.Row.{good_span}
use Rattle.entries.proofs.Keeps.{lost_most}
use Rattle.outage.proofs.LogHolding.{log_holding_valid}
use Rattle.outage.specs.declared.Log.{Log}
use Rattle.outage.specs.Log.{log_entries, valid_log, last_regime_end, most_mw}
use Rattle.entries.proofs.Minutes.{by_minutes, energy_of}
use Rattle.year.specs.declared.Year.{Year}
use Rattle.year.specs.Year.{fresh_year, good_year}
use Rattle.levels.specs.Book.{published_book, good_book, target_of}
use Rattle.levels.specs.Availability.{availability_in, meets_target, availability_rows, target_given, TargetGives}
use Rattle.levels.specs.declared.levelling.Levels.{Levels}
use Rattle.levels.specs.Levels.{no_levels, level_of, cap_level, floor_level, floor_of, level_fits, levels_rows, LevelsGives}
use Rattle.levels.proofs.Only.{only_target, only_levels}
use Rattle.revenue.specs.Revenue.{pounds_of}
use Rattle.balances.specs.Balance.{carry_of, balance_after, later_within, good_amounts}
use Rattle.balances.specs.Assessment.{not_negative, held_between, assess_rows, assess_given, AssessGives}
use Rattle.balances.specs.declared.assessing.Figures.{Figures}
use Rattle.settlement.specs.declared.medians.Period.{Period}
use Rattle.settlement.specs.Gap.{good_period, day_sum, hundredths}
use Rattle.settlement.specs.Growth.{grows_to, growth_of, paid_of}
use Rattle.settlement.specs.Calls.{GapGives, GrowthGives, PayGives}
use Rattle.settlement.proofs.Gaps.{gap_is}
use Rattle.settlement.proofs.Growing.{growth_is}
use Rattle.settlement.proofs.Only.{only_gap, only_growth, only_pay}
use Rattle.codec.specs.Numbers.{spelled}
use Rattle.codec.specs.Fields.{framed}
use Rattle.codec.specs.Format.{field, scan}
use Rattle.codec.specs.Message.{reading}
use Rattle.return_format.specs.Form.{left_out, form}
use Rattle.return_format.specs.Return.{read_rows, read_place, read_year}
use Rattle.return_reading.specs.Reading.{ReturnGives}
use Rattle.demands.specs.Figures.{outage, out_for, no_outage, whole_year, book_with, short_return, with_factors, euro_line, five_years, FiveFigures, MarkedFigures}

-- ---- the logs keep every rule
none_out_valid : valid_log no_outage ≡ true
none_out_valid = log_holding_valid last_regime_end [] refl (omega arith) (record { good = refl; order = refl; rated = λ minute. omega arith })

out_valid : (start minutes : ℕ) → good_span last_regime_end (outage start minutes) ≡ true → valid_log (out_for start minutes) ≡ true
out_valid start minutes g =
    log_holding_valid last_regime_end (outage start minutes ∷ []) refl (omega arith)
    (record { good = and_made (and_made g refl) refl; order = refl; rated = λ minute. omega (arith, lost_most minute (outage start minutes)) })

-- ---- levels
levels_made : {a b c d : ℤ} → a ≡ c → b ≡ d → ◌≡◌ {A = Levels} (record { cap = a; floor = b }) (record { cap = c; floor = d })
levels_made p q = cc

-- the levels of a book that asks for nothing in year one, in a whole year without an outage
module _ (pcl aic pppi : ℕ) (cap floor : ℤ) (b : good_book (book_with pcl) ≡ true) (k : good_year (whole_year aic pppi) ≡ true)
    (c : cap_level (book_with pcl) (whole_year aic pppi) ≡ cap) (f : floor_level (book_with pcl) (whole_year aic pppi) 10000 ≡ floor) where
  met : meets_target (book_with pcl) no_outage 1 ≡ true
  met = leb-zero (availability_in no_outage 1)

  floor_met : floor_of (book_with pcl) (whole_year aic pppi) no_outage ≡ floor
  floor_met = rw met f

  -- nothing stops them but the limit
  limit_alone : first_applicable (levels_rows (book_with pcl) (whole_year aic pppi) no_outage) ≡ first_applicable ((TooLarge, not (level_fits cap && level_fits floor)) ∷ [])
  limit_alone = rw (b, none_out_valid, k, c, floor_met) refl

  levels_are : (level_fits cap && level_fits floor) ≡ true → LevelsGives (book_with pcl) (whole_year aic pppi) no_outage (Ok (record { cap = cap; floor = floor }))
  levels_are h =
      let clear : first_applicable (levels_rows (book_with pcl) (whole_year aic pppi) no_outage) ≡ 0 = limit_alone ∙ rw h refl in (
        sym clear,
        levels_made (sym c) (sym floor_met) ∙ sym (ap (λ (n : ℕ). cond (eqb n 0) (record { cap = cap_level (book_with pcl) (whole_year aic pppi); floor = floor_of (book_with pcl) (whole_year aic pppi) no_outage }) no_levels) clear),
      )

  levels_past : (level_fits cap && level_fits floor) ≡ false → LevelsGives (book_with pcl) (whole_year aic pppi) no_outage (Err TooLarge)
  levels_past h =
      let stop : first_applicable (levels_rows (book_with pcl) (whole_year aic pppi) no_outage) ≡ 11 = limit_alone ∙ rw h refl in (
        sym stop,
        sym (ap (λ (n : ℕ). cond (eqb n 0) (record { cap = cap_level (book_with pcl) (whole_year aic pppi); floor = floor_of (book_with pcl) (whole_year aic pppi) no_outage }) no_levels) stop),
      )

marked_levels : LevelsGives published_book (whole_year 10200 11000) no_outage (Ok (record { cap = pos 94030783; floor = pos 53688049 }))
unfolding good_book level_of round_z on_magnitude round_div up_of
marked_levels = levels_are 83806402 10200 11000 (pos 94030783) (pos 53688049) refl refl refl refl refl

once : LevelsGives (book_with 83806406) (whole_year 10200 11000) no_outage (Ok (record { cap = pos 94030788; floor = pos 53688049 }))
unfolding good_book level_of round_z on_magnitude round_div up_of
once = levels_are 83806406 10200 11000 (pos 94030788) (pos 53688049) refl refl refl refl refl

at_most : LevelsGives (book_with 961538462) (whole_year 10000 10400) no_outage (Ok (record { cap = pos 1000000000; floor = pos 50759610 }))
unfolding good_book level_of round_z on_magnitude round_div up_of
at_most = levels_are 961538462 10000 10400 (pos 1000000000) (pos 50759610) refl refl refl refl refl

past : LevelsGives (book_with 970873787) (whole_year 10300 10000) no_outage (Err TooLarge)
unfolding good_book level_of round_z on_magnitude round_div up_of
past = levels_past 970873787 10300 10000 (pos 1000000001) (pos 48807317) refl refl refl refl refl

half : LevelsGives (book_with 666666667) (whole_year 15000 10000) no_outage (Ok (record { cap = pos 1000000000; floor = pos 48807317 }))
unfolding good_book level_of round_z on_magnitude round_div up_of
half = levels_are 666666667 15000 10000 (pos 1000000000) (pos 48807317) refl refl refl refl refl

-- ---- targets
-- the target, entry by entry
by_entries : (log : Log) (number : ℕ)
    → meets_target published_book log number
    ≡ leb (60 * target_of published_book number) (most_mw * (year_end number log.regime_end - year_start number) - energy_of (year_start number) (year_end number log.regime_end) (log_entries log))
by_entries log number =
    ap (λ (x : ℕ). leb (60 * target_of published_book number) (most_mw * (year_end number log.regime_end - year_start number) - x))
    (sym (by_minutes (year_start number) (year_end number log.regime_end) (log_entries log)))

-- where no row applies, what is given is whether the target is met
module _ (log : Log) (number : ℕ) (clear : first_applicable (availability_rows published_book log number) ≡ 0) where
  given_as : (met : Bool) → meets_target published_book log number ≡ met → met ≡ target_given published_book log number
  given_as met e = sym e ∙ sym (ap (λ (n : ℕ). cond (eqb n 0) (meets_target published_book log number) false) clear)

-- 2021: 104,832 minutes with the whole cable out still meet the target
marked_met : TargetGives published_book (out_for 1009440 104832) 3 (Ok true)
unfolding good_book year_start days_to
marked_met =
    let clear : first_applicable (availability_rows published_book (out_for 1009440 104832) 3) ≡ 0 = rw (out_valid 1009440 104832 refl) refl in
    (sym clear, given_as (out_for 1009440 104832) 3 clear true (by_entries (out_for 1009440 104832) 3 ∙ refl))

-- one minute more misses it
marked_missed : TargetGives published_book (out_for 1009440 104833) 3 (Ok false)
unfolding good_book year_start days_to
marked_missed =
    let clear : first_applicable (availability_rows published_book (out_for 1009440 104833) 3) ≡ 0 = rw (out_valid 1009440 104833 refl) refl in
    (sym clear, given_as (out_for 1009440 104833) 3 clear false (by_entries (out_for 1009440 104833) 3 ∙ refl))

-- 2020, a leap year: 106,272 minutes meet it
marked_leap : TargetGives published_book (out_for 482400 106272) 2 (Ok true)
unfolding good_book year_start days_to
marked_leap =
    let clear : first_applicable (availability_rows published_book (out_for 482400 106272) 2) ≡ 0 = rw (out_valid 482400 106272 refl) refl in
    (sym clear, given_as (out_for 482400 106272) 2 clear true (by_entries (out_for 482400 106272) 2 ∙ refl))

-- ---- carries
carries : carry_of (pos 1250) 10000 10000 ∷ carry_of (negsuc 1249) 10000 10000 ∷ carry_of (pos 50000000) 10000 10200 ∷ [] ≡ pos 1298 ∷ negsuc 1297 ∷ pos 52978800 ∷ []
unfolding up_of round_div on_magnitude round_z carry_of
carries = refl

-- ---- euro lines
converted : map (λ (z : ℤ). pounds_of 50000 (euro_line z)) (pos 1 ∷ pos 3 ∷ pos 5 ∷ []) ≡ pos 0 ∷ pos 2 ∷ pos 2 ∷ []
unfolding up_of round_div on_magnitude round_z pounds_of
converted = refl

converted_back : map (λ (z : ℤ). pounds_of 50000 (euro_line z)) (neg_ℤ (pos 1) ∷ neg_ℤ (pos 3) ∷ neg_ℤ (pos 5) ∷ []) ≡ pos 0 ∷ neg_ℤ (pos 2) ∷ neg_ℤ (pos 2) ∷ []
unfolding up_of round_div on_magnitude round_z pounds_of
converted_back = refl

-- ---- an assessment
accepted : first_applicable (assess_rows five_years) ≡ 0
unfolding up_of round_div on_magnitude round_z carry_of balance_after later_within good_amounts not_negative
accepted = refl

figures : (assess_given five_years).revenue ∷ (assess_given five_years).cap ∷ (assess_given five_years).wpa ∷ (assess_given five_years).adjustment ∷ [] ≡ pos 5403349 ∷ pos 4863014 ∷ neg_ℤ (pos 112098) ∷ neg_ℤ (pos 428237) ∷ []
unfolding up_of round_div on_magnitude round_z carry_of balance_after later_within good_amounts not_negative held_between
figures = refl

-- ---- entries of the growth table
entry_0 : growth_of 0 ≡ 1000000000
unfolding grows_to
entry_0 = growth_is 0 1000000000 (lit≤ tt) refl refl

entry_100 : growth_of 100 ≡ 1038800000
unfolding grows_to
entry_100 = growth_is 100 1038800000 (lit≤ tt) refl refl

entry_200 : growth_of 200 ≡ 1079105440
unfolding grows_to
entry_200 = growth_is 200 1079105440 (lit≤ tt) refl refl

entry_300 : growth_of 300 ≡ 1120974731
unfolding grows_to
entry_300 = growth_is 300 1120974731 (lit≤ tt) refl refl

given_0 : GrowthGives 0 (Ok 1000000000)
given_0 = (refl, sym entry_0)

given_100 : GrowthGives 100 (Ok 1038800000)
given_100 = (refl, sym entry_100)

given_200 : GrowthGives 200 (Ok 1079105440)
given_200 = (refl, sym entry_200)

given_300 : GrowthGives 300 (Ok 1120974731)
given_300 = (refl, sym entry_300)

-- ---- gaps
given_gap : GapGives (record { first = 44927; last = 45291 }) (record { first = 45383; last = 45747 }) (Ok 125)
unfolding hundredths round_z on_magnitude round_div up_of
given_gap = (refl, refl)

module _ (earlier later : Period) (e : good_period earlier ≡ true) (l : good_period later ≡ true) where
  -- sums of days that differ by 3,648 give the longest gap
  longest : day_sum later ≡ day_sum earlier + 3648 → GapGives earlier later (Ok 499)
  longest d =
      let n : hundredths (day_sum earlier) (day_sum later) ≡ pos 499 = gap_is (day_sum earlier) (day_sum later) (omega arith) ∙ ap pos (omega arith) in
      rw (e, l, n) (refl, refl)

  -- and by 3,649 one that is not allowed
  past_longest : day_sum later ≡ day_sum earlier + 3649 → GapGives earlier later (Err BadPeriod)
  past_longest d =
      let n : hundredths (day_sum earlier) (day_sum later) ≡ pos 500 = gap_is (day_sum earlier) (day_sum later) (omega arith) ∙ ap pos (omega arith) in
      rw (e, l, n) (refl, refl)

-- ---- a payment back
cut_back : (k n e : ℕ) → growth_of n ≡ e → paid_of (negsuc k) n ≡ neg_ℤ (pos (suc k * e / 1000000000))
unfolding paid_of on_magnitude
cut_back k n e h = ap (λ (x : ℕ). neg_ℤ (pos (suc k * x / 1000000000))) h

pays_back : PayGives (neg_ℤ (pos 10000001)) 100 (Ok (neg_ℤ (pos 10388001)))
pays_back = (refl, sym (cut_back 10000000 100 1038800000 entry_100))

-- ---- returns without factors
first_days : year_end 1 last_regime_end ≡ 335 * 1440
unfolding year_start
first_days = refl

part_year : left_out 1 ≡ Some (round_div (335 * 10000) 365, round_div (335 * 10000) 365)
unfolding round_div up_of
part_year = refl

-- an accepted return, and both of its year's factors
abbrev Part : List ℕ → ℕ → Type 0
Part bs part = (first_applicable (read_rows bs) ≡ 0) × ((read_year bs).pyc ≡ part) × ((read_year bs).pyf ≡ part)

part_read : (bs : List ℕ) (part : ℕ) → Part bs part → (r : Result Year RefusedAt) → ReturnGives bs r → (answer_number (why_alone r) ≡ 0) × ((given_or fresh_year (why_alone r)).pyc ≡ part) × ((given_or fresh_year (why_alone r)).pyf ≡ part)
part_read bs part p r g = (g.0 ∙ p.0, ap (λ (y : Year). y.pyc) g.2 ∙ p.1, ap (λ (y : Year). y.pyf) g.2 ∙ p.2)

first_part : Part (short_return 1) 9178
unfolding reading form field framed spelled scan
first_part = (refl, refl, refl)

second_part : Part (short_return 2) 10000
unfolding reading form field framed spelled scan
second_part = (refl, refl, refl)

later_part : Part (short_return 24) 10000
unfolding reading form field framed spelled scan
later_part = (refl, refl, refl)

-- with both written out
first_whole_part : Part (with_factors 1 39 16) 10000
unfolding reading form field framed spelled scan
first_whole_part = (refl, refl, refl)

last_part : Part (with_factors 25 35 218) 9178
unfolding reading form field framed spelled scan
last_part = (refl, refl, refl)

last_whole_part : Part (with_factors 25 39 16) 10000
unfolding reading form field framed spelled scan
last_whole_part = (refl, refl, refl)

-- a return that is refused at the factors, or where they should stand
abbrev NoPart : List ℕ → Type 0
NoPart bs = (first_applicable (read_rows bs) ≡ 13) × (read_place bs ≡ 23)

no_part_read : (bs : List ℕ) → NoPart bs → (r : Result Year RefusedAt) → ReturnGives bs r → (answer_number (why_alone r) ≡ 13) × (part_number r ≡ 23)
no_part_read bs p r g = (g.0 ∙ p.0, g.1 ∙ p.1)

no_last_part : NoPart (short_return 25)
unfolding reading form field framed spelled scan
no_last_part = (refl, refl)

first_default_part : NoPart (with_factors 1 35 218)
unfolding reading form field framed spelled scan
first_default_part = (refl, refl)

-- ---- all of them
-- equal lists are equal place by place
place : (i : ℕ) {xs ys : List ℤ} → xs ≡ ys → get_or xs i (pos 0) ≡ get_or ys i (pos 0)
place i h = ap (λ (zs : List ℤ). get_or zs i (pos 0)) h

five_figures : (r : Result Figures Refusal) → AssessGives five_years r → FiveFigures r
five_figures r g = record {
  accepted = g.0 ∙ accepted;
  revenue = ap (λ (f : Figures). f.revenue) g.1 ∙ place 0 figures;
  cap = ap (λ (f : Figures). f.cap) g.1 ∙ place 1 figures;
  wpa = ap (λ (f : Figures). f.wpa) g.1 ∙ place 2 figures;
  adjustment = ap (λ (f : Figures). f.adjustment) g.1 ∙ place 3 figures;
}

pub marked : MarkedFigures
marked = record {
  met = λ r g. only_target published_book (out_for 1009440 104832) 3 r (Ok true) g marked_met;
  missed = λ r g. only_target published_book (out_for 1009440 104833) 3 r (Ok false) g marked_missed;
  leap = λ r g. only_target published_book (out_for 482400 106272) 2 r (Ok true) g marked_leap;
  cap_and_floor = λ r g. only_levels published_book (whole_year 10200 11000) no_outage r (Ok (record { cap = pos 94030783; floor = pos 53688049 })) g marked_levels;
  rounded_once = λ r g. only_levels (book_with 83806406) (whole_year 10200 11000) no_outage r (Ok (record { cap = pos 94030788; floor = pos 53688049 })) g once;
  cap_most = λ r g. only_levels (book_with 961538462) (whole_year 10000 10400) no_outage r (Ok (record { cap = pos 1000000000; floor = pos 50759610 })) g at_most;
  cap_past = λ r g. only_levels (book_with 970873787) (whole_year 10300 10000) no_outage r (Err TooLarge) g past;
  cap_half = λ r g. only_levels (book_with 666666667) (whole_year 15000 10000) no_outage r (Ok (record { cap = pos 1000000000; floor = pos 48807317 })) g half;
  carry = place 0 carries;
  carry_back = place 1 carries;
  carry_index = place 2 carries;
  five_years_law = five_figures;
  growth_0 = λ r g. only_growth 0 r (Ok 1000000000) g given_0;
  growth_100 = λ r g. only_growth 100 r (Ok 1038800000) g given_100;
  growth_200 = λ r g. only_growth 200 r (Ok 1079105440) g given_200;
  growth_300 = λ r g. only_growth 300 r (Ok 1120974731) g given_300;
  gap_years = λ r g. only_gap (record { first = 44927; last = 45291 }) (record { first = 45383; last = 45747 }) r (Ok 125) g given_gap;
  gap_most = λ earlier later e l d r g. only_gap earlier later r (Ok 499) g (longest earlier later e l d);
  gap_past = λ earlier later e l d r g. only_gap earlier later r (Err BadPeriod) g (past_longest earlier later e l d);
  pays_back = λ r g. only_pay (neg_ℤ (pos 10000001)) 100 r (Ok (neg_ℤ (pos 10388001))) g pays_back;
  euros = converted;
  euros_back = converted_back;
  first_days = first_days;
  part_year = part_year;
  first_left_out = part_read (short_return 1) 9178 first_part;
  second_left_out = part_read (short_return 2) 10000 second_part;
  later_left_out = part_read (short_return 24) 10000 later_part;
  last_left_out = no_part_read (short_return 25) no_last_part;
  first_default = no_part_read (with_factors 1 35 218) first_default_part;
  first_whole = part_read (with_factors 1 39 16) 10000 first_whole_part;
  last_part = part_read (with_factors 25 35 218) 9178 last_part;
  last_whole = part_read (with_factors 25 39 16) 10000 last_whole_part;
}
