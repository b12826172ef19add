-- Demand 2 holds. Assumes nothing.
use mathlib.Core.Path.{◌≡◌, refl, sym, ap, ◌∙◌, subst}
use mathlib.Core.Bool.{Bool, true, false, cond, ◌&&◌}
use mathlib.Core.List.{List, [], ◌++◌}
use Prim.Native.Nat.{ℕ, ◌+◌, ◌-◌, ◌*◌, ◌/◌, ◌^◌, ◌≤◌, ◌<◌}
use native.Mathlib.Omega.{arith}
use borrow.Author.Tests.{leb-true, ltb-true, ltb-false, lt-ltb}
use lib.Dec.{leb, ltb, lit<}
use lib.ListN.{length, drop, replicate}
use Rattle.std.specs.Prelude.{None, Result, Ok}
use Rattle.refusals.specs.declared.Refusal.{Refusal}
use Rattle.refusals.specs.declared.RefusedAt.{RefusedAt}
use Rattle.codec.specs.Format.{field, ReadAt}
use Rattle.return_format.specs.Form.{factors_value, required}
use lib.IntN.{ℤ, pos, negsuc, nat_abs, ◌+ℤ◌, ◌*ℤ◌}
use lib.Signed.{le_z}
use Rattle.lists.proofs.Tests.{and_right, not_no}
use Rattle.refusals.specs.Refusals.{first_applicable, answer_number, given_or, why_alone, part_number}
use Rattle.refusals.proofs.Laws.{all_clear, beside_accepted}
use Rattle.refusals.proofs.Cases.{same_case}
use Rattle.money.specs.Rounding.{on_magnitude}
use Rattle.money.proofs.Nearest.{round_near}
use Rattle.calendar.specs.declared.YearMinutes.{YearMinutes}
use Rattle.calendar.specs.Years.{good_year_number, MinutesGives}
use Rattle.outage.specs.declared.Log.{Log}
use Rattle.outage.specs.Log.{most_mw, good_regime_end, last_regime_end, valid_log, log_entries, lost_energy}
use Rattle.outage.specs.Calls.{empty_log, LostGives}
use Rattle.year.specs.declared.Year.{Year}
use Rattle.year.specs.Year.{good_year}
use Rattle.year.proofs.Says.{year_says}
use Rattle.levels.specs.declared.Book.{Book}
use Rattle.levels.specs.declared.levelling.Levels.{Levels}
use Rattle.levels.specs.Book.{book_holds, target_of}
use Rattle.levels.specs.Availability.{availability_in, meets_target, availability_rows, AvailabilityGives, TargetGives}
use Rattle.levels.specs.Levels.{level_of, aif_of, cap_level, floor_level, floor_of, no_levels, levels_rows, LevelsGives}
use Rattle.revenue.specs.Revenue.{assessed_revenue, revenue_rows}
use Rattle.balances.specs.declared.assessing.Yearly.{Yearly}
use Rattle.balances.specs.Balance.{period_years}
use Rattle.balances.specs.declared.assessing.Figures.{Figures}
use Rattle.balances.specs.Assessment.{AssessGives}
use Rattle.balances.proofs.Licence.{starts_as, carried_forward}
use Rattle.balances.proofs.Answered.{answered_figures, answered_near, answered_CFA}
use Rattle.balances.proofs.NetPresent.{exact_is_sum, each_term, five_uplifts, five_terms}
use Rattle.assessment.specs.Period.{yearly_of}
use Rattle.assessment.proofs.Period.{period_assessed}
use Rattle.settlement.specs.declared.medians.Period.{Period}
use Rattle.settlement.specs.Gap.{good_period, day_sum, hundredths, good_hundredths}
use Rattle.settlement.specs.Growth.{growth_entries, grows_to, growth_of, paid_of}
use Rattle.settlement.specs.Exact.{NearExact}
use Rattle.settlement.specs.Calls.{gap_holds, gap_rows, GapGives, growth_rows, GrowthGives, pay_rows, PayGives, settle_rows, SettleGives}
use Rattle.settlement.proofs.Payments.{no_half, nearest, only_nearest, passing, passes, entry_rule, entry_greatest, near_paid}
use Rattle.codec.specs.Theorems.{Bytes}
use Rattle.codec.specs.Theorems.{joined}
use Rattle.outage.proofs.LogHolding.{valid_end}
use Rattle.text.specs.Text.{text_of}
use Rattle.sheet_printout.specs.Dates.{moment_of}
use Rattle.sheet_printout.specs.Printout.{print_minute_rows}
use Rattle.sheet_printout.proofs.Dates.{right_date, one_minute}
use Rattle.sheet_format.specs.Sheet.{read_sheet_rows}
use Rattle.sheet_round_trip.specs.Sheets.{IsSheetOf}
use Rattle.sheet_round_trip.proofs.Places.{sheet_read}
use Rattle.sheet_round_trip.proofs.Places as sheets
use Rattle.floats.proofs.Pounds.{out_and_back}
use Rattle.cells.specs.Cells.{empty_slot}
use Rattle.workbook_cells.specs.Calls.{no_cells, ExportGives, ReadCellsGives}
use Rattle.workbook_cells.proofs.RoundTrip.{reads_back, comes_out}
use Rattle.return_format.specs.Return.{most_bytes, Reading, whole, refused, reading_of, is_refused, place_in, return_of, write_rows}
use Rattle.return_round_trip.specs.Flat.{fields_of, FactorsWritten}
use Rattle.return_round_trip.specs.Places.{RefusalPlace}
use Rattle.return_round_trip.proofs.Places.{return_accepted, accepted_return, same_bytes, refusal_place, place_alone, longer_refused, no_factors_refused, one_place}
use Rattle.return_round_trip.proofs.Flat.{flat, flat_whole, tags_ascend, factors_said}
use Rattle.return_reading.specs.Reading.{ReturnGives}
use Rattle.return_writing.specs.Written.{WriteGives}
use Rattle.return_refiling.specs.Refiled.{refile_rows, RefileGives}
use Rattle.demands.specs.Given.{first_figure, end_figure, target_met, cap_figure, floor_figure, assess_figures}
use Rattle.demands.specs.Demand2.{IsLevel, Carried, NearSums, Demand2}
use Rattle.demands.proofs.Given.{is_given, is_given_whole}
use Rattle.demands.proofs.Lost.{first_is, end_is, year_lost, year_most}
use Rattle.demands.proofs.Returns.{written_reads_back, written_length, read_writes_back}
use Rattle.demands.proofs.PlanMessages.{plan_reads_back, plan_is, is_read, plan_writes_back, plan_refused_at, plan_one_of_three, plan_longer_is, plan_alone}
use Rattle.demands.proofs.Workbooks.{made_exact, same_gap, filled_figures}
use Rattle.demands.proofs.Sheets.{sheet_is, sheet_reads_back, sheet_writes_back, sheet_refused_at, sheet_not_longer, sheet_cut_same}

-- ---- levels
availability_is : (book : Book) (log : Log) (number : ℕ) (r : Result ℕ Refusal) → AvailabilityGives book log number r → answer_number r ≡ 0
    → (y : Result YearMinutes Refusal) → MinutesGives number log.regime_end y → (l : Result ℕ Refusal) → LostGives log (first_figure y) (end_figure y) l
    → given_or 0 r + given_or 0 l ≡ most_mw * (end_figure y - first_figure y)
availability_is book log number r g n y m l k =
    let clear = all_clear (availability_rows book log number) (sym g.0 ∙ n) in
    let v : valid_log log ≡ true = not_no (valid_log log) clear.1.0 in
    let good : good_year_number number ≡ true = not_no (good_year_number number) clear.1.1.0 in
    let is : given_or 0 r ≡ most_mw * (end_figure y - first_figure y) - lost_energy (first_figure y) (end_figure y) (log_entries log) =
    beside_accepted (availability_rows book log number) (answer_number r) (given_or 0 r) (availability_in log number) 0 g.0 g.1 n
    ∙ rw (first_is log v number good y m, end_is log v number good y m) refl in
    omega (arith, is, ap (given_or 0) (year_lost log v number good y m l k), year_most log v number good y m)

target_is : (book : Book) (log : Log) (number : ℕ) (r : Result Bool Refusal) → TargetGives book log number r → answer_number r ≡ 0
    → (a : Result ℕ Refusal) → AvailabilityGives book log number a → target_met r ≡ leb (60 * target_of book number) (given_or 0 a)
target_is book log number r g n a h =
    let clear : first_applicable (availability_rows book log number) ≡ 0 = sym g.0 ∙ n in
    beside_accepted (availability_rows book log number) (answer_number r) (target_met r) (meets_target book log number) false g.0 g.1 n
    ∙ ap (λ (x : ℕ). leb (60 * target_of book number) x)
    (sym (beside_accepted (availability_rows book log number) (answer_number a) (given_or 0 a) (availability_in log number) 0 h.0 h.1 (h.0 ∙ clear)))

is_level : (level : ℤ) (partial : ℕ) (sum : ℤ) (incentive pppi : ℕ) → level ≡ level_of partial sum incentive pppi → IsLevel level sum (partial * incentive * pppi)
unfolding level_of
is_level level partial sum incentive pppi e =
    record { rounded = e; near = rw e (round_near (sum *ℤ pos (partial * incentive * pppi)) 1000000000000 (lit< tt)) }

module _ (book : Book) (y : Year) (log : Log) (r : Result Levels Refusal) (g : LevelsGives book y log r) (n : answer_number r ≡ 0) where
  levels_are : given_or no_levels r ≡ record { cap = cap_level book y; floor = floor_of book y log }
  levels_are = beside_accepted (levels_rows book y log) (answer_number r) (given_or no_levels r) (record { cap = cap_level book y; floor = floor_of book y log }) no_levels g.0 g.1 n

  cap_is : IsLevel (cap_figure r) (book.pcl +ℤ book.pcac +ℤ book.orac) (y.pyc * y.aic * y.pppi)
  cap_is =
      is_level (cap_figure r) y.pyc (book.pcl +ℤ book.pcac +ℤ book.orac) y.aic y.pppi
      (ap (λ (l : Levels). l.cap) levels_are)

  -- the target is asked with what the levels were found good
  met_is : (t : Result Bool Refusal) → TargetGives book log y.number t → target_met t ≡ meets_target book log y.number
  met_is t h =
      let clear = all_clear (levels_rows book y log) (sym g.0 ∙ n) in
      let b : book_holds book log.regime_end ≡ true = not_no (book_holds book log.regime_end) clear.0 in
      let v : valid_log log ≡ true = not_no (valid_log log) clear.1.0 in
      let good : good_year_number y.number ≡ true = (year_says y (not_no (good_year y) clear.1.1.0)).number in
      h.1 ∙ rw (b, v, good) refl

  floor_is : (t : Result Bool Refusal) → TargetGives book log y.number t
      → IsLevel (floor_figure r) (book.pfl +ℤ book.pcaf +ℤ book.oraf) (y.pyf * aif_of (target_met t) y.exceptional book.miss_factor * y.pppi)
  floor_is t h =
      is_level (floor_figure r) y.pyf (book.pfl +ℤ book.pcaf +ℤ book.oraf) (aif_of (target_met t) y.exceptional book.miss_factor) y.pppi
      (ap (λ (l : Levels). l.floor) levels_are
      ∙ ap (λ (met : Bool). floor_level book y (aif_of met y.exceptional book.miss_factor)) (sym (met_is t h)))

-- ---- balances and the adjustment
module _ (y : Yearly) (r : Result Figures Refusal) (g : AssessGives y r) (n : answer_number r ≡ 0) where
  figures_carried : Carried y (assess_figures r)
  figures_carried =
      subst (Carried y) (sym (answered_figures y period_years r g n)) (record { revenue = refl; cap = refl; floor = refl; wpa = refl; held = refl; adjustment = refl })

  figures_near : NearSums y (assess_figures r)
  figures_near =
      let near = answered_near y period_years r g n in
      subst (NearSums y) (sym (answered_figures y period_years r g n)) (record { revenue = near.revenue; cap = near.cap; floor = near.floor; wpa = near.wpa })

-- ---- settlement
not_negative : (z : ℤ) → good_hundredths z ≡ true → pos (nat_abs z) ≡ z
not_negative (pos k) h = refl
not_negative (negsuc k) h = let no : ◌≡◌ {A = ℕ} 0 1 = cc in absurd (omega arith)

module _ (earlier later : Period) (r : Result ℕ Refusal) (g : GapGives earlier later r) (n : answer_number r ≡ 0) where
  gap_clear : gap_holds earlier later ≡ true
  gap_clear = not_no (gap_holds earlier later) (all_clear (gap_rows earlier later) (sym g.0 ∙ n)).0

  figure_is : given_or 0 r ≡ nat_abs (hundredths (day_sum earlier) (day_sum later))
  figure_is = beside_accepted (gap_rows earlier later) (answer_number r) (given_or 0 r) (nat_abs (hundredths (day_sum earlier) (day_sum later))) 0 g.0 g.1 n

  gap_is : pos (given_or 0 r) ≡ hundredths (day_sum earlier) (day_sum later)
  gap_is =
      let z = hundredths (day_sum earlier) (day_sum later) in
      let good : good_hundredths z ≡ true = and_right (good_period later) (good_hundredths z) (and_right (good_period earlier) (good_period later && good_hundredths z) gap_clear) in
      ap pos figure_is ∙ not_negative z good

module _ (k : ℕ) (r : Result ℕ Refusal) (g : GrowthGives k r) (n : answer_number r ≡ 0) where
  entry_is : given_or 0 r ≡ growth_of k
  entry_is = beside_accepted (growth_rows k) (answer_number r) (given_or 0 r) (growth_of k) 0 g.0 g.1 n

  in_table : k < growth_entries
  in_table = ltb-true k growth_entries (not_no (ltb k growth_entries) (all_clear (growth_rows k) (sym g.0 ∙ n)).0)

  growth_rule : (given_or 0 r ^ 100 * 10000 ^ k ≤ 10 ^ 900 * 10388 ^ k) × ((e : ℕ) → e ^ 100 * 10000 ^ k ≤ 10 ^ 900 * 10388 ^ k → e ≤ given_or 0 r)
  growth_rule = (
    passing k (given_or 0 r) (ap (grows_to k) entry_is ∙ (entry_rule k in_table).0),
    λ e h. subst (λ (x : ℕ). e ≤ x) (sym entry_is) (entry_greatest k e in_table (passes k e h)),
  )

module _ (amount : ℤ) (k : ℕ) (r : Result ℤ Refusal) (g : PayGives amount k r) (n : answer_number r ≡ 0) where
  paid_in_table : ltb k growth_entries ≡ true
  paid_in_table = not_no (ltb k growth_entries) (all_clear (pay_rows amount k) (sym g.0 ∙ n)).0

  paid_is : given_or (pos 0) r ≡ paid_of amount k
  paid_is = beside_accepted (pay_rows amount k) (answer_number r) (given_or (pos 0) r) (paid_of amount k) (pos 0) g.0 g.1 n

  payment_is : (e : Result ℕ Refusal) → GrowthGives k e → given_or (pos 0) r ≡ on_magnitude (λ (m : ℕ). m * given_or 0 e / 1000000000) amount
  unfolding paid_of
  payment_is e h =
      let zero-too : first_applicable (growth_rows k) ≡ 0 = rw paid_in_table refl in
      paid_is ∙ ap (λ (x : ℕ). on_magnitude (λ (m : ℕ). m * x / 1000000000) amount) (sym (entry_is k e h (h.0 ∙ zero-too)))

  payment_is_near : NearExact (nat_abs amount) k (nat_abs (given_or (pos 0) r))
  payment_is_near = subst (λ (z : ℤ). NearExact (nat_abs amount) k (nat_abs z)) (sym paid_is) (near_paid amount k (ltb-true k growth_entries paid_in_table))

settled_is : (adjustment : ℤ) (measured settled : Period) (r : Result ℤ Refusal) → SettleGives adjustment measured settled r → answer_number r ≡ 0
    → (g : Result ℕ Refusal) → GapGives measured settled g → PayGives adjustment (given_or 0 g) r
settled_is adjustment measured settled r s n g h =
    let z = hundredths (day_sum measured) (day_sum settled) in
    let clear = all_clear (settle_rows adjustment measured settled) (sym s.0 ∙ n) in
    let holds : gap_holds measured settled ≡ true = not_no (gap_holds measured settled) clear.0 in
    let none : answer_number g ≡ 0 = h.0 ∙ rw holds refl in
    let is = figure_is measured settled g h none in
    let good : good_hundredths z ≡ true = and_right (good_period settled) (good_hundredths z) (and_right (good_period measured) (good_period settled && good_hundredths z) holds) in
    let short : ltb (given_or 0 g) growth_entries ≡ true = ap (λ (x : ℕ). ltb x growth_entries) is ∙ in_range z good in
    let zero-too : first_applicable (pay_rows adjustment (given_or 0 g)) ≡ 0 = rw (short, clear.1.0) refl in (
      n ∙ sym zero-too,
      beside_accepted (settle_rows adjustment measured settled) (answer_number r) (given_or (pos 0) r) (paid_of adjustment (nat_abs z)) (pos 0) s.0 s.1 n
          ∙ ap (paid_of adjustment) (sym is)
          ∙ rw zero-too refl,
    )
  where
    in_range : (x : ℤ) → good_hundredths x ≡ true → ltb (nat_abs x) growth_entries ≡ true
    in_range (pos k) e = lt-ltb k growth_entries (omega (arith, leb-true k 499 (and_right (le_z (pos 0) (pos k)) (le_z (pos k) (pos 499)) e)))
    in_range (negsuc k) e = let no : ◌≡◌ {A = ℕ} 0 1 = cc in absurd (omega arith)

-- ---- the return
module _ (bs out : List ℕ) (r : Result ℕ Refusal) (o : List ℕ) (g : RefileGives bs out r o) (n : answer_number r ≡ 0) where
  refiled_is : (r ≡ Ok (length bs)) × (o ≡ bs ++ drop (length bs) out)
  refiled_is = (
    same_case 0 r (Ok (length bs)) n (beside_accepted (refile_rows bs (length out)) (answer_number r) (given_or 0 r) (length bs) 0 g.0 g.1 n),
    beside_accepted (refile_rows bs (length out)) (answer_number r) o (bs ++ drop (length bs) out) out g.0 g.2 n,
  )

flat_is : (y : Year) (out : List ℕ) (r : Result ℕ Refusal) (o : List ℕ) → WriteGives y out r o → answer_number r ≡ 0 → o ≡ joined (fields_of y) ++ drop (length (joined (fields_of y))) out
flat_is y out r o g n =
    beside_accepted (write_rows y (length out)) (answer_number r) o (return_of y ++ drop (length (return_of y)) out) out g.0 g.2 n
    ∙ ap (λ (bs : List ℕ). bs ++ drop (length bs) out) (flat y)

module _ (bs : List ℕ) (t : Result Year RefusedAt) (g : ReturnGives bs t) where
  -- a refused reading is one at the place that is given
  place_there : (x : Reading) → reading_of bs ≡ x → Bytes bs → (answer_number (why_alone t) ≡ 0 → ⊥) → length bs ≤ most_bytes → RefusalPlace bs (part_number t) × ((other : ℕ) → RefusalPlace bs other → other ≡ part_number t)
  place_there (whole y) e b n h = absurd (n (g.0 ∙ ap (λ (x : Reading). cond (is_refused x) 13 0) e))
  place_there (refused why place) e b n h =
      let f : reading_of bs ≡ refused why (part_number t) = e ∙ ap (refused why) (sym (g.1 ∙ ap place_in e)) in
      (refusal_place bs why (part_number t) b h f, place_alone bs b h why (part_number t) f)

  no_factors_is : length bs ≤ most_bytes → {rest : ℕ × (ℕ × ℕ)} → ReadAt required bs 0 (25, rest) 23 → field 5 (factors_value 25) (drop 23 bs) ≡ None → (answer_number (why_alone t) ≡ 13) × (part_number t ≡ 23)
  no_factors_is few head None-found =
      let e = no_factors_refused bs few head None-found in
      (g.0 ∙ ap (λ (x : Reading). cond (is_refused x) 13 0) e, g.1 ∙ ap place_in e)

  longer_is : most_bytes < length bs → (answer_number (why_alone t) ≡ 13) × (part_number t ≡ most_bytes)
  longer_is h =
      let e = longer_refused bs h in
      (g.0 ∙ ap (λ (x : Reading). cond (is_refused x) 13 0) e, g.1 ∙ ap place_in e)

-- ---- day sheets
sheet_end_good : (re : ℕ) (log : Log) (bs : List ℕ) → IsSheetOf re log bs → good_regime_end re ≡ true
sheet_end_good re log bs s = rw s.end at (valid_end log s.valid)

sheet_accepted : (re : ℕ) (bs : List ℕ) (log : Log) → IsSheetOf re log bs → first_applicable (read_sheet_rows re bs) ≡ 0
sheet_accepted re bs log s =
    let good = sheet_end_good re log bs s in
    rw (good, sheet_read re good log bs s) refl

pub demand_2 : Demand2
demand_2 = record {
  availability = availability_is;
  target = target_is;
  cap = cap_is;
  floor = floor_is;
  revenue = λ y r g n. beside_accepted (revenue_rows y) (answer_number r) (given_or (pos 0) r) (assessed_revenue y) (pos 0) g.0 g.1 n;
  starts = starts_as;
  goes_on = carried_forward;
  carried = figures_carried;
  exact = exact_is_sum;
  uplifts = five_uplifts;
  each_term = each_term;
  five_terms = five_terms;
  near = figures_near;
  adjustment = λ y. answered_CFA y period_years;
  period = λ book years log r len g n.
      let a = period_assessed book years log period_years r refl (omega (arith, len)) g n in
      (a, answered_CFA (yearly_of book years log period_years) period_years r a n);
  gap = gap_is;
  no_half = no_half;
  nearest = nearest;
  only_nearest = only_nearest;
  growth = growth_rule;
  payment = payment_is;
  payment_near = payment_is_near;
  settled = settled_is;
  reconciled = λ final provisional settled reconciled r g. g;
  written_read = written_reads_back;
  read_written = read_writes_back;
  refiled = refiled_is;
  is_return = λ bs b t g. (λ n. accepted_return bs b (sym g.0 ∙ n), λ f. g.0 ∙ return_accepted f.year bs f.return_of_law);
  same_bytes = same_bytes;
  whole_fields = flat_whole;
  flat = flat_is;
  tags = λ bs b t g n. tags_ascend bs b (sym g.0 ∙ n);
  factored = λ bs b t g n fields w e. subst (λ (y : Year). FactorsWritten y fields) (sym g.2) (factors_said bs b (sym g.0 ∙ n) fields w e);
  lengths = written_length;
  place = λ bs b t g n h. place_there bs t g (reading_of bs) refl b n h;
  one_place = one_place;
  no_factors = λ bs few t g pppi rate aic head e. no_factors_is bs t g few head e;
  longer = longer_is;
  sheet_written_read = sheet_reads_back;
  sheet_read_written = sheet_writes_back;
  is_sheet = λ re bs b t g. (
    λ n. record { log = given_or (empty_log re) (why_alone t); sheet_of_law = sheet_is re bs b t g n },
    λ s. g.0 ∙ sheet_accepted re bs s.log s.sheet_of_law,
  );
  sheet_same_bytes = λ re x y bs s t. sheets.same_bytes re (sheet_end_good re x bs s) x y bs s t;
  sheet_place = sheet_refused_at;
  sheet_longest = sheet_not_longer;
  sheet_cut = sheet_cut_same;
  plan_written_read = plan_reads_back;
  plan_read_written = plan_writes_back;
  is_plan = λ bs b t g. (plan_is bs b t g, is_read bs b t g);
  plan_same_bytes = plan_alone;
  plan_place = plan_refused_at;
  plan_places = plan_one_of_three;
  plan_longer = plan_longer_is;
  period_exact = made_exact;
  medians_gap = same_gap;
  whole_pounds_law = out_and_back;
  exported_read = λ amounts l p e g z r h. reads_back amounts p (given_or (replicate 28 empty_slot) e) r l (subst (ExportGives amounts p) (is_given (replicate 28 empty_slot) e z) g) h;
  read_exported = λ cells f r h z e g. comes_out cells (given_or no_cells (why_alone r)) e f (subst (ReadCellsGives cells) (is_given_whole no_cells r z) h) g;
  filled = filled_figures;
  date = λ minute r g n. (
    beside_accepted (print_minute_rows minute) (answer_number r) (given_or (text_of []) r) (text_of (moment_of minute)) (text_of []) g.0 g.1 n,
    right_date minute (ltb-false last_regime_end minute (all_clear (print_minute_rows minute) (sym g.0 ∙ n)).0),
  );
  one_minute = one_minute;
}
