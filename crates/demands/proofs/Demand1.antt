-- Demand 1 holds. Assumes nothing.
use mathlib.Core.Path.{◌≡◌, refl, sym, ap, ◌∙◌}
use mathlib.Core.Bool.{false}
use mathlib.Core.List.{List, [], ◌++◌}
use Prim.Native.Nat.{◌≤◌}
use native.Mathlib.Omega.{arith}
use lib.IntN.{pos}
use lib.ListN.{length, drop, replicate}
use Rattle.refusals.specs.declared.Refusal.{Refusal}
use Rattle.refusals.specs.declared.Refusal.TheVariants.{BrokenLog, BadSpan, BadPower, Clash, FullLog, NoSuchEntry, BadStretch, BadBook, BadYear, FloorAboveCap, TooLarge, BadPeriod, Malformed, NoRoom, BadPiece, ClosedTime, BadPlan, BadCell, HeldAlready, NotOnSheet}
use Rattle.refusals.specs.Refusals.{refusal_number, answer_number, given_or, why_alone}
use Rattle.refusals.proofs.Laws.{same_refusal, beside_refused}
use Rattle.calendar.specs.declared.YearMinutes.{YearMinutes}
use Rattle.calendar.specs.Years.{no_minutes}
use Rattle.calendar.proofs.Only.{one_minutes}
use Rattle.entries.specs.Row.{put_in_order, without}
use Rattle.outage.specs.Log.{last_regime_end, log_entries, log_with, closed_at, log_holding}
use Rattle.outage.specs.Calls.{empty_log, enter_rows, cancel_rows, close_rows}
use Rattle.outage.proofs.Only.{one_empty, one_enter, one_cancel, one_close, one_lost}
use Rattle.outage.proofs.Only as logs
use Rattle.plan.specs.declared.listing.Listed.{Listed}
use Rattle.plan.specs.Plan.{no_plan}
use Rattle.plan.specs.Calls.{list_of}
use Rattle.plan.proofs.Only.{one_list}
use Rattle.plan_entering.proofs.Accepted.{plan_back}
use Rattle.plan_entering.proofs.Only.{one_enter_plan}
use Rattle.plan_message.specs.Form.{plan_bytes}
use Rattle.plan_message.specs.Calls.{write_plan_rows}
use Rattle.plan_message.proofs.Only.{one_read_plan, one_write_plan}
use Rattle.year.specs.Year.{fresh_year}
use Rattle.year.proofs.Only as years
use Rattle.levels.specs.declared.levelling.Levels.{Levels}
use Rattle.levels.specs.Levels.{no_levels}
use Rattle.levels.proofs.Only.{one_availability, one_target, one_levels}
use Rattle.revenue.proofs.Only.{one_revenue}
use Rattle.balances.specs.Assessment.{no_figures}
use Rattle.balances.proofs.Only.{one_years, one_assess}
use Rattle.assessment.proofs.Only.{one_period}
use Rattle.settlement.proofs.Only.{one_gap, one_growth, one_pay, one_settle, one_reconcile}
use Rattle.median_period.specs.Medians.{no_medians}
use Rattle.median_period.proofs.Only.{one_make, one_medians_gap}
use Rattle.cells.specs.Cells.{empty_slot}
use Rattle.workbook_cells.specs.declared.reading.CellsRead.{CellsRead}
use Rattle.workbook_cells.specs.Calls.{no_cells}
use Rattle.workbook_cells.proofs.Only.{one_export, one_read_cells}
use Rattle.cell_printout.proofs.Only.{one_print_cell}
use Rattle.workbook_input.specs.declared.WorkbookInput.{WorkbookInput}
use Rattle.workbook_input.specs.Calls.{no_input}
use Rattle.workbook_input.proofs.Only.{one_read_workbook}
use Rattle.workbook_filling.proofs.Only.{one_fill}
use Rattle.text.specs.Text.{text_of}
use Rattle.sheet_printout.proofs.Only.{one_print_minute, one_print_outage}
use Rattle.sheet_format.specs.Sheet.{sheet_of, write_sheet_rows}
use Rattle.sheet_reading.proofs.Only.{one_read_sheet}
use Rattle.sheet_writing.proofs.Only.{one_write_sheet}
use Rattle.return_format.specs.Return.{return_of, write_rows}
use Rattle.return_reading.proofs.Only.{one_read}
use Rattle.return_writing.proofs.Only.{one_write}
use Rattle.return_refiling.specs.Refiled.{refile_rows}
use Rattle.return_refiling.proofs.Only.{one_refile}
use Rattle.return_printout.proofs.Only.{one_print}
use Rattle.demands.specs.Demand1.{Demand1}
use Rattle.demands.proofs.Workbooks.{export_nine, export_twelve, cells_bad, cells_first}
use Rattle.demands.proofs.Given.{none_given, no_part}

numbers : (why : Refusal) → (1 ≤ refusal_number why) × (refusal_number why ≤ 20)
numbers BrokenLog = omega arith
numbers BadSpan = omega arith
numbers BadPower = omega arith
numbers Clash = omega arith
numbers FullLog = omega arith
numbers NoSuchEntry = omega arith
numbers BadStretch = omega arith
numbers BadBook = omega arith
numbers BadYear = omega arith
numbers FloorAboveCap = omega arith
numbers TooLarge = omega arith
numbers BadPeriod = omega arith
numbers Malformed = omega arith
numbers NoRoom = omega arith
numbers BadPiece = omega arith
numbers ClosedTime = omega arith
numbers BadPlan = omega arith
numbers BadCell = omega arith
numbers HeldAlready = omega arith
numbers NotOnSheet = omega arith

pub demand_1 : Demand1
demand_1 = record {
  empty = one_empty;
  check_log = logs.one_check;
  enter = one_enter;
  cancel = one_cancel;
  close = one_close;
  list = one_list;
  enter_plan = one_enter_plan;
  lost = one_lost;
  minutes = one_minutes;
  check_year = years.one_check;
  availability = one_availability;
  target = one_target;
  levels = one_levels;
  revenue = one_revenue;
  assess_years = one_years;
  assess = one_assess;
  period = one_period;
  gap = one_gap;
  growth = one_growth;
  pay = one_pay;
  settle = one_settle;
  reconcile = one_reconcile;
  read = one_read;
  write = one_write;
  refile = one_refile;
  print = one_print;
  read_sheet = one_read_sheet;
  write_sheet = one_write_sheet;
  read_plan = one_read_plan;
  write_plan = one_write_plan;
  print_minute = one_print_minute;
  print_outage = one_print_outage;
  make_period = one_make;
  medians_gap = one_medians_gap;
  export = one_export;
  read_cells = one_read_cells;
  print_cell = one_print_cell;
  read_workbook = one_read_workbook;
  fill = one_fill;
  enter_checks = λ l e r after g v. g.0 ∙ rw v refl;
  cancel_checks = λ l key r after g v. g.0 ∙ rw v refl;
  close_checks = λ l m r after g v. g.0 ∙ rw v refl;
  list_checks = λ re p r g b. g.0 ∙ rw b refl;
  enter_plan_checks = λ l p r after g. (λ v. g.0 ∙ rw v refl, λ v b. g.0 ∙ rw (v, b) refl);
  lost_checks = λ l a b r g v. g.0 ∙ rw v refl;
  availability_checks = λ book l number r g. (λ b. g.0 ∙ rw b refl, λ b v. g.0 ∙ rw (b, v) refl);
  target_checks = λ book l number r g. (λ b. g.0 ∙ rw b refl, λ b v. g.0 ∙ rw (b, v) refl);
  levels_checks = λ book y l r g. (λ b. g.0 ∙ rw b refl, λ b v. g.0 ∙ rw (b, v) refl);
  period_checks = λ book years l r g. (λ b. g.0 ∙ rw b refl, λ b v. g.0 ∙ rw (b, v) refl);
  revenue_checks = λ y r g v. g.0 ∙ rw v refl;
  assess_years_checks = λ y n r g v. g.0 ∙ rw v refl;
  assess_checks = λ y r g v. g.0 ∙ rw v refl;
  write_checks = λ y out r o g v. g.0 ∙ rw v refl;
  read_sheet_checks = λ re bs r g b. (g.0 ∙ rw b refl, g.1 ∙ rw b refl);
  write_sheet_checks = λ l out r o g v. g.0 ∙ rw v refl;
  export_checks = λ amounts p r g. (export_nine amounts p r g, export_twelve amounts p r g);
  read_cells_checks = cells_bad;
  read_cells_first = cells_first;
  numbered = numbers;
  fixed = same_refusal;
  enter_refused = λ l e r after g n. beside_refused (enter_rows l e) (answer_number r) after (log_with l (put_in_order e (log_entries l))) l g.0 g.1 n;
  cancel_refused = λ l key r after g n. beside_refused (cancel_rows l key) (answer_number r) after (log_with l (without key (log_entries l))) l g.0 g.1 n;
  close_refused = λ l m r after g n. beside_refused (close_rows l m) (answer_number r) after (closed_at l m) l g.0 g.1 n;
  enter_plan_refused = λ l p r after g n. g.2 ∙ plan_back l p (λ z. n (g.0 ∙ z));
  empty_refused = λ regime_end r g n. none_given (log_holding last_regime_end []) r n;
  write_refused = λ y out r o g n. (
    beside_refused (write_rows y (length out)) (answer_number r) o (return_of y ++ drop (length (return_of y)) out) out g.0 g.2 n,
    none_given 0 r n,
  );
  refile_refused = λ bs out r o g n. (
    beside_refused (refile_rows bs (length out)) (answer_number r) o (bs ++ drop (length bs) out) out g.0 g.2 n,
    none_given 0 r n,
  );
  read_sheet_refused = λ re bs r g n. none_given (empty_log re) (why_alone r) n;
  write_sheet_refused = λ l out r o g n. (
    beside_refused (write_sheet_rows l (length out)) (answer_number r) o (sheet_of l ++ drop (length (sheet_of l)) out) out g.0 g.2 n,
    none_given 0 r n,
  );
  write_plan_refused = λ p out r o g n. (
    beside_refused (write_plan_rows p (length out)) (answer_number r) o (plan_bytes p ++ drop (length (plan_bytes p)) out) out g.0 g.2 n,
    none_given 0 r n,
  );
  lost_refused = λ l a b r g n. none_given 0 r n;
  minutes_refused = λ number regime_end r g n.
      let none = none_given no_minutes r n in
      (ap (λ (y : YearMinutes). y.first) none, ap (λ (y : YearMinutes). y.end) none);
  availability_refused = λ book l number r g n. none_given 0 r n;
  target_refused = λ book l number r g n. none_given false r n;
  levels_refused = λ book y l r g n.
      let none = none_given no_levels r n in
      (ap (λ (x : Levels). x.cap) none, ap (λ (x : Levels). x.floor) none);
  revenue_refused = λ y r g n. none_given (pos 0) r n;
  assess_years_refused = λ y k r g n. none_given no_figures r n;
  assess_refused = λ y r g n. none_given no_figures r n;
  period_refused = λ book years l r g n. none_given no_figures r n;
  gap_refused = λ earlier later r g n. none_given 0 r n;
  growth_refused = λ k r g n. none_given 0 r n;
  pay_refused = λ amount k r g n. none_given (pos 0) r n;
  settle_refused = λ adjustment a b r g n. none_given (pos 0) r n;
  reconcile_refused = λ final provisional a b r g n. none_given (pos 0) r n;
  read_refused = λ bs r g n. none_given fresh_year (why_alone r) n;
  read_accepted = λ bs r g n. no_part r n;
  read_sheet_accepted = λ re bs r g n. no_part r n;
  list_refused = λ re p r g n.
      let none = none_given (list_of []) (why_alone r) n in
      (ap (λ (l : Listed). l.count) none, ap (λ (l : Listed). l.entries) none);
  read_plan_refused = λ bs r g n. none_given no_plan (why_alone r) n;
  read_plan_accepted = λ bs r g n. no_part r n;
  make_period_refused = λ first last r g n. none_given no_medians r n;
  medians_gap_refused = λ earlier later r g n. none_given 0 r n;
  export_refused = λ amounts p r g n. none_given (replicate 28 empty_slot) r n;
  read_cells_refused = λ cells r g n.
      let none = none_given no_cells (why_alone r) n in
      (ap (λ (c : CellsRead). c.amounts) none, ap (λ (c : CellsRead). c.period) none);
  read_cells_accepted = λ cells r g n. no_part r n;
  read_workbook_refused = λ bs r g n.
      let none = none_given no_input r n in
      (ap (λ (w : WorkbookInput). w.amounts) none, ap (λ (w : WorkbookInput). w.first) none, ap (λ (w : WorkbookInput). w.last) none);
  fill_refused = λ bs r g n. none_given (replicate 28 empty_slot) r n;
  print_cell_refused = λ index cell r g n. none_given (text_of []) r n;
  print_minute_refused = λ minute r g n. none_given (text_of []) r n;
  print_outage_refused = λ e r g n. none_given (text_of []) r n;
}
