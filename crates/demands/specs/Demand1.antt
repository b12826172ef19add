-- Demand 1. Every public call ends with an answer on every input, a broken log or a cut-off return too. It checks what it is handed. A
-- refused call has a fixed number, gives back the log it got, and writes no byte to a lent buffer.
-- That a call ends is proved of its code; what it may then answer is said here, by what it promises.
use Rattle.std.specs.Prelude.{◌≡◌, Bool, true, false, List, [], ℕ, ◌≤◌, ◌<◌, replicate, ℤ, pos, Result, ⊤}
use Rattle.lists.specs.Lists.{padded}
use Rattle.refusals.specs.declared.Refusal.{Refusal}
use Rattle.refusals.specs.declared.RefusedAt.{RefusedAt}
use Rattle.refusals.specs.Refusals.{refusal_number, answer_number, given_or, why_alone, part_number}
use Rattle.refusals.specs.Answers.{One}
use Rattle.calendar.specs.declared.YearMinutes.{YearMinutes}
use Rattle.calendar.specs.Years.{MinutesGives}
use Rattle.entries.specs.declared.Entry.{Entry}
use Rattle.entries.specs.declared.Key.{Key}
use Rattle.outage.specs.declared.Log.{Log}
use Rattle.outage.specs.Log.{last_regime_end, good_regime_end, zero_entry, valid_log, log_holding}
use Rattle.outage.specs.Calls.{empty_log, EmptyGives, EnterGives, CancelGives, CloseGives, LostGives}
use Rattle.outage.specs.Calls as logs
use Rattle.plan.specs.declared.Plan.{Plan}
use Rattle.plan.specs.declared.listing.Listed.{Listed}
use Rattle.plan.specs.Plan.{most_outages, good_plan, no_plan}
use Rattle.plan.specs.Calls.{list_of, ListGives}
use Rattle.plan_entering.specs.Calls.{EnterPlanGives}
use Rattle.year.specs.declared.Year.{Year}
use Rattle.year.specs.Year.{fresh_year, good_year}
use Rattle.year.specs.Year as years
use Rattle.levels.specs.declared.Book.{Book}
use Rattle.levels.specs.declared.levelling.Levels.{Levels}
use Rattle.levels.specs.Book.{book_holds}
use Rattle.levels.specs.Availability.{AvailabilityGives, TargetGives}
use Rattle.levels.specs.Levels.{LevelsGives}
use Rattle.revenue.specs.Revenue.{RevenueGives}
use Rattle.balances.specs.declared.assessing.Yearly.{Yearly}
use Rattle.balances.specs.declared.assessing.Figures.{Figures}
use Rattle.balances.specs.Assessment.{assessable, no_figures, YearsGives, AssessGives}
use Rattle.assessment.specs.Period.{PeriodGives}
use Rattle.settlement.specs.declared.medians.Period.{Period}
use Rattle.settlement.specs.Calls.{GapGives, GrowthGives, PayGives, SettleGives, ReconcileGives}
use Rattle.median_period.specs.declared.MedianPeriod.{MedianPeriod}
use Rattle.median_period.specs.Medians.{good_medians, no_medians}
use Rattle.median_period.specs.Calls.{MakeGives, MediansGapGives}
use Rattle.cells.specs.declared.Cell.{Cell}
use Rattle.cells.specs.declared.Slot.{Slot}
use Rattle.cells.specs.Cells.{good_amount, empty_slot}
use Rattle.workbook_cells.specs.declared.reading.CellsRead.{CellsRead}
use Rattle.workbook_cells.specs.Workbook.{amount_at, bad_cell}
use Rattle.workbook_cells.specs.Calls.{no_cells, ExportGives, ReadCellsGives}
use Rattle.cell_printout.specs.Printout.{PrintCellGives}
use Rattle.workbook_input.specs.declared.WorkbookInput.{WorkbookInput}
use Rattle.workbook_input.specs.Calls.{no_input, ReadWorkbookGives}
use Rattle.workbook_filling.specs.Filling.{FillGives}
use Rattle.codec.specs.Theorems.{Bytes}
use Rattle.text.specs.declared.Text.{Text}
use Rattle.text.specs.Text.{text_of}
use Rattle.plan_message.specs.Calls.{ReadPlanGives, WritePlanGives}
use Rattle.sheet_printout.specs.Printout.{PrintMinuteGives, PrintOutageGives}
use Rattle.sheet_reading.specs.Reading.{SheetGives}
use Rattle.sheet_writing.specs.Written.{WriteSheetGives}
use Rattle.return_reading.specs.Reading.{ReturnGives}
use Rattle.return_writing.specs.Written.{WriteGives}
use Rattle.return_refiling.specs.Refiled.{RefileGives}
use Rattle.return_printout.specs.Printout.{PrintGives}
use Rattle.demands.specs.Given.{first_figure, end_figure, target_met, cap_figure, floor_figure, assess_figures, made_log}

-- a number that is 8 for a bad book, and else 1 for a broken log
abbrev pub BookThenLog : Book → Log → ℕ → Type 0
BookThenLog book log n =
    (book_holds book log.regime_end ≡ false → n ≡ 8) × (book_holds book log.regime_end ≡ true → valid_log log ≡ false → n ≡ 1)

pub record Demand1 : Type 0 where
  -- ---- each call answers on every input, and in one way
  pub empty : (regime_end : ℕ) → One (EmptyGives regime_end)
  pub check_log : (log : Log) → One (logs.CheckLogGives log)
  pub enter : (log : Log) (e : Entry) → One (λ (p : Result ⊤ Refusal × Log). EnterGives log e p.0 p.1)
  pub cancel : (log : Log) (key : Key) → One (λ (p : Result ⊤ Refusal × Log). CancelGives log key p.0 p.1)
  pub close : (log : Log) (minute : ℕ) → One (λ (p : Result ⊤ Refusal × Log). CloseGives log minute p.0 p.1)
  pub list : (regime_end : ℕ) (p : Plan) → One (ListGives regime_end p)
  pub enter_plan : (log : Log) (p : Plan) → One (λ (r : Result ⊤ RefusedAt × Log). EnterPlanGives log p r.0 r.1)
  pub lost : (log : Log) (a b : ℕ) → One (LostGives log a b)
  pub minutes : (number regime_end : ℕ) → One (MinutesGives number regime_end)
  pub check_year : (y : Year) → One (years.CheckYearGives y)
  pub availability : (book : Book) (log : Log) (number : ℕ) → One (AvailabilityGives book log number)
  pub target : (book : Book) (log : Log) (number : ℕ) → One (TargetGives book log number)
  pub levels : (book : Book) (y : Year) (log : Log) → One (LevelsGives book y log)
  pub revenue : (y : Year) → One (RevenueGives y)
  pub assess_years : (y : Yearly) (n : ℕ) → One (YearsGives y n)
  pub assess : (y : Yearly) → One (AssessGives y)
  pub period : (book : Book) (years : List Year) (log : Log) → One (PeriodGives book years log)
  pub gap : (earlier later : Period) → One (GapGives earlier later)
  pub growth : (n : ℕ) → One (GrowthGives n)
  pub pay : (amount : ℤ) (n : ℕ) → One (PayGives amount n)
  pub settle : (adjustment : ℤ) (measured settled : Period) → One (SettleGives adjustment measured settled)
  pub reconcile : (final provisional : ℤ) (settled reconciled : Period) → One (ReconcileGives final provisional settled reconciled)
  pub read : (bs : List ℕ) → One (ReturnGives bs)
  pub write : (y : Year) (out : List ℕ) → One (λ (p : Result ℕ Refusal × List ℕ). WriteGives y out p.0 p.1)
  pub refile : (bs out : List ℕ) → One (λ (p : Result ℕ Refusal × List ℕ). RefileGives bs out p.0 p.1)
  pub print : (bs : List ℕ) → Bytes bs → One (PrintGives bs)
  pub read_sheet : (regime_end : ℕ) (bs : List ℕ) → One (SheetGives regime_end bs)
  pub write_sheet : (log : Log) (out : List ℕ) → One (λ (p : Result ℕ Refusal × List ℕ). WriteSheetGives log out p.0 p.1)
  pub read_plan : (bs : List ℕ) → One (ReadPlanGives bs)
  pub write_plan : (p : Plan) (out : List ℕ) → One (λ (r : Result ℕ Refusal × List ℕ). WritePlanGives p out r.0 r.1)
  pub print_minute : (minute : ℕ) → One (PrintMinuteGives minute)
  pub print_outage : (e : Entry) → One (PrintOutageGives e)
  pub make_period : (first last : ℕ) → One (MakeGives first last)
  pub medians_gap : (earlier later : MedianPeriod) → One (MediansGapGives earlier later)
  pub export : (amounts : List ℤ) (p : MedianPeriod) → One (ExportGives amounts p)
  pub read_cells : (cells : List Slot) → One (ReadCellsGives cells)
  pub print_cell : (index : ℕ) (cell : Cell) → One (PrintCellGives index cell)
  pub read_workbook : (bs : List ℕ) → One (ReadWorkbookGives bs)
  pub fill : (bs : List ℕ) → One (FillGives bs)
  -- ---- "It checks what it is handed": a broken log is 1, a bad book 8 before it, a year or amounts out of range 9
  pub enter_checks : (log : Log) (e : Entry) (r : Result ⊤ Refusal) (after : Log) → EnterGives log e r after → valid_log log ≡ false → answer_number r ≡ 1
  pub cancel_checks : (log : Log) (key : Key) (r : Result ⊤ Refusal) (after : Log) → CancelGives log key r after → valid_log log ≡ false → answer_number r ≡ 1
  pub close_checks : (log : Log) (minute : ℕ) (r : Result ⊤ Refusal) (after : Log) → CloseGives log minute r after → valid_log log ≡ false → answer_number r ≡ 1
  pub list_checks : (regime_end : ℕ) (p : Plan) (r : Result Listed RefusedAt) → ListGives regime_end p r → good_regime_end regime_end ≡ false → answer_number (why_alone r) ≡ 8
  pub enter_plan_checks : (log : Log) (p : Plan) (r : Result ⊤ RefusedAt) (after : Log) → EnterPlanGives log p r after → (valid_log log ≡ false → answer_number (why_alone r) ≡ 1) × (valid_log log ≡ true → good_plan p ≡ false → answer_number (why_alone r) ≡ 17)
  pub lost_checks : (log : Log) (a b : ℕ) (r : Result ℕ Refusal) → LostGives log a b r → valid_log log ≡ false → answer_number r ≡ 1
  pub availability_checks : (book : Book) (log : Log) (number : ℕ) (r : Result ℕ Refusal) → AvailabilityGives book log number r → BookThenLog book log (answer_number r)
  pub target_checks : (book : Book) (log : Log) (number : ℕ) (r : Result Bool Refusal) → TargetGives book log number r → BookThenLog book log (answer_number r)
  pub levels_checks : (book : Book) (y : Year) (log : Log) (r : Result Levels Refusal) → LevelsGives book y log r → BookThenLog book log (answer_number r)
  pub period_checks : (book : Book) (years : List Year) (log : Log) (r : Result Figures Refusal) → PeriodGives book years log r → BookThenLog book log (answer_number r)
  pub revenue_checks : (y : Year) (r : Result ℤ Refusal) → RevenueGives y r → good_year y ≡ false → answer_number r ≡ 9
  pub assess_years_checks : (y : Yearly) (n : ℕ) (r : Result Figures Refusal) → YearsGives y n r → assessable y n ≡ false → answer_number r ≡ 9
  pub assess_checks : (y : Yearly) (r : Result Figures Refusal) → AssessGives y r → assessable y 5 ≡ false → answer_number r ≡ 9
  pub write_checks : (y : Year) (out : List ℕ) (r : Result ℕ Refusal) (o : List ℕ) → WriteGives y out r o → valid_log y.log ≡ false → answer_number r ≡ 1
  pub read_sheet_checks : (regime_end : ℕ) (bs : List ℕ) (r : Result Log RefusedAt) → SheetGives regime_end bs r → good_regime_end regime_end ≡ false → (answer_number (why_alone r) ≡ 8) × (part_number r ≡ 0)
  pub write_sheet_checks : (log : Log) (out : List ℕ) (r : Result ℕ Refusal) (o : List ℕ) → WriteSheetGives log out r o → valid_log log ≡ false → answer_number r ≡ 1
  -- an exported yearly amount out of range is 9, and else a period that is not as a workbook keeps one 12
  pub export_checks : (amounts : List ℤ) (p : MedianPeriod) (r : Result (List Slot) Refusal) → ExportGives amounts p r
      → ((i : ℕ) → i < 20 → good_amount i (amount_at amounts i) ≡ false → answer_number r ≡ 9)
      × (((i : ℕ) → i < 20 → good_amount i (amount_at amounts i) ≡ true) → good_medians p ≡ false → answer_number r ≡ 12)
  -- cells are 18 exactly where one is bad, and the index is that of the first
  pub read_cells_checks : (cells : List Slot) (r : Result CellsRead RefusedAt) → ReadCellsGives cells r → ((i : ℕ) → i < 28 → bad_cell cells i ≡ true → answer_number (why_alone r) ≡ 18)
  pub read_cells_first : (cells : List Slot) (r : Result CellsRead RefusedAt) → ReadCellsGives cells r → (answer_number (why_alone r) ≡ 0 → ⊥)
      → (bad_cell cells (part_number r) ≡ true) × ((i : ℕ) → i < part_number r → bad_cell cells i ≡ false)
  -- ---- "A refused call has a fixed number": 1 to 20, each for one refusal
  pub numbered : (why : Refusal) → (1 ≤ refusal_number why) × (refusal_number why ≤ 20)
  pub fixed : (why other : Refusal) → refusal_number why ≡ refusal_number other → why ≡ other
  -- ---- "gives back the log it got", to the last slot
  pub enter_refused : (log : Log) (e : Entry) (r : Result ⊤ Refusal) (after : Log) → EnterGives log e r after → (answer_number r ≡ 0 → ⊥) → after ≡ log
  pub cancel_refused : (log : Log) (key : Key) (r : Result ⊤ Refusal) (after : Log) → CancelGives log key r after → (answer_number r ≡ 0 → ⊥) → after ≡ log
  pub close_refused : (log : Log) (minute : ℕ) (r : Result ⊤ Refusal) (after : Log) → CloseGives log minute r after → (answer_number r ≡ 0 → ⊥) → after ≡ log
  pub enter_plan_refused : (log : Log) (p : Plan) (r : Result ⊤ RefusedAt) (after : Log) → EnterPlanGives log p r after → (answer_number (why_alone r) ≡ 0 → ⊥) → after ≡ log
  -- where it was handed none, the empty log to 13,632,480
  pub empty_refused : (regime_end : ℕ) (r : Result Log Refusal) → EmptyGives regime_end r → (answer_number r ≡ 0 → ⊥) → made_log r ≡ log_holding last_regime_end []
  -- a sheet that is refused gives the empty log for its regime end, or to 13,632,480 where that is refused
  pub read_sheet_refused : (regime_end : ℕ) (bs : List ℕ) (r : Result Log RefusedAt) → SheetGives regime_end bs r → (answer_number (why_alone r) ≡ 0 → ⊥) → given_or (empty_log regime_end) (why_alone r) ≡ empty_log regime_end
  -- ---- "writes no byte to a lent buffer"; the length is 0
  pub write_sheet_refused : (log : Log) (out : List ℕ) (r : Result ℕ Refusal) (o : List ℕ) → WriteSheetGives log out r o → (answer_number r ≡ 0 → ⊥) → (o ≡ out) × (given_or 0 r ≡ 0)
  pub write_refused : (y : Year) (out : List ℕ) (r : Result ℕ Refusal) (o : List ℕ) → WriteGives y out r o → (answer_number r ≡ 0 → ⊥) → (o ≡ out) × (given_or 0 r ≡ 0)
  pub refile_refused : (bs out : List ℕ) (r : Result ℕ Refusal) (o : List ℕ) → RefileGives bs out r o → (answer_number r ≡ 0 → ⊥) → (o ≡ out) × (given_or 0 r ≡ 0)
  pub write_plan_refused : (p : Plan) (out : List ℕ) (r : Result ℕ Refusal) (o : List ℕ) → WritePlanGives p out r o → (answer_number r ≡ 0 → ⊥) → (o ≡ out) × (given_or 0 r ≡ 0)
  -- ---- beside a refusal figures are 0
  pub lost_refused : (log : Log) (a b : ℕ) (r : Result ℕ Refusal) → LostGives log a b r → (answer_number r ≡ 0 → ⊥) → given_or 0 r ≡ 0
  pub minutes_refused : (number regime_end : ℕ) (r : Result YearMinutes Refusal) → MinutesGives number regime_end r → (answer_number r ≡ 0 → ⊥) → (first_figure r ≡ 0) × (end_figure r ≡ 0)
  pub availability_refused : (book : Book) (log : Log) (number : ℕ) (r : Result ℕ Refusal) → AvailabilityGives book log number r → (answer_number r ≡ 0 → ⊥) → given_or 0 r ≡ 0
  pub target_refused : (book : Book) (log : Log) (number : ℕ) (r : Result Bool Refusal) → TargetGives book log number r → (answer_number r ≡ 0 → ⊥) → target_met r ≡ false
  pub levels_refused : (book : Book) (y : Year) (log : Log) (r : Result Levels Refusal) → LevelsGives book y log r → (answer_number r ≡ 0 → ⊥) → (cap_figure r ≡ pos 0) × (floor_figure r ≡ pos 0)
  pub revenue_refused : (y : Year) (r : Result ℤ Refusal) → RevenueGives y r → (answer_number r ≡ 0 → ⊥) → given_or (pos 0) r ≡ pos 0
  pub assess_years_refused : (y : Yearly) (n : ℕ) (r : Result Figures Refusal) → YearsGives y n r → (answer_number r ≡ 0 → ⊥) → assess_figures r ≡ no_figures
  pub assess_refused : (y : Yearly) (r : Result Figures Refusal) → AssessGives y r → (answer_number r ≡ 0 → ⊥) → assess_figures r ≡ no_figures
  pub period_refused : (book : Book) (years : List Year) (log : Log) (r : Result Figures Refusal) → PeriodGives book years log r → (answer_number r ≡ 0 → ⊥) → assess_figures r ≡ no_figures
  pub gap_refused : (earlier later : Period) (r : Result ℕ Refusal) → GapGives earlier later r → (answer_number r ≡ 0 → ⊥) → given_or 0 r ≡ 0
  pub growth_refused : (n : ℕ) (r : Result ℕ Refusal) → GrowthGives n r → (answer_number r ≡ 0 → ⊥) → given_or 0 r ≡ 0
  pub pay_refused : (amount : ℤ) (n : ℕ) (r : Result ℤ Refusal) → PayGives amount n r → (answer_number r ≡ 0 → ⊥) → given_or (pos 0) r ≡ pos 0
  pub settle_refused : (adjustment : ℤ) (measured settled : Period) (r : Result ℤ Refusal) → SettleGives adjustment measured settled r → (answer_number r ≡ 0 → ⊥) → given_or (pos 0) r ≡ pos 0
  pub reconcile_refused : (final provisional : ℤ) (settled reconciled : Period) (r : Result ℤ Refusal) → ReconcileGives final provisional settled reconciled r → (answer_number r ≡ 0 → ⊥) → given_or (pos 0) r ≡ pos 0
  -- beside a refused reading a fresh year, beside an accepted one the place 0
  pub read_refused : (bs : List ℕ) (r : Result Year RefusedAt) → ReturnGives bs r → (answer_number (why_alone r) ≡ 0 → ⊥) → given_or fresh_year (why_alone r) ≡ fresh_year
  pub read_accepted : (bs : List ℕ) (r : Result Year RefusedAt) → ReturnGives bs r → answer_number (why_alone r) ≡ 0 → part_number r ≡ 0
  pub read_sheet_accepted : (regime_end : ℕ) (bs : List ℕ) (r : Result Log RefusedAt) → SheetGives regime_end bs r → answer_number (why_alone r) ≡ 0 → part_number r ≡ 0
  -- beside a refused list no outage, beside a refused plan that is read a plan of zeros
  pub list_refused : (regime_end : ℕ) (p : Plan) (r : Result Listed RefusedAt) → ListGives regime_end p r → (answer_number (why_alone r) ≡ 0 → ⊥) → ((given_or (list_of []) (why_alone r)).count ≡ 0) × ((given_or (list_of []) (why_alone r)).entries ≡ padded most_outages zero_entry [])
  pub read_plan_refused : (bs : List ℕ) (r : Result Plan RefusedAt) → ReadPlanGives bs r → (answer_number (why_alone r) ≡ 0 → ⊥) → given_or no_plan (why_alone r) ≡ no_plan
  pub read_plan_accepted : (bs : List ℕ) (r : Result Plan RefusedAt) → ReadPlanGives bs r → answer_number (why_alone r) ≡ 0 → part_number r ≡ 0
  -- beside a refused export, and where nothing is filled, every cell is empty; beside cells that are refused, and beside an input, stand zeros
  pub make_period_refused : (first last : ℕ) (r : Result MedianPeriod Refusal) → MakeGives first last r → (answer_number r ≡ 0 → ⊥) → given_or no_medians r ≡ no_medians
  pub medians_gap_refused : (earlier later : MedianPeriod) (r : Result ℕ Refusal) → MediansGapGives earlier later r → (answer_number r ≡ 0 → ⊥) → given_or 0 r ≡ 0
  pub export_refused : (amounts : List ℤ) (p : MedianPeriod) (r : Result (List Slot) Refusal) → ExportGives amounts p r → (answer_number r ≡ 0 → ⊥) → given_or (replicate 28 empty_slot) r ≡ replicate 28 empty_slot
  pub read_cells_refused : (cells : List Slot) (r : Result CellsRead RefusedAt) → ReadCellsGives cells r → (answer_number (why_alone r) ≡ 0 → ⊥) → ((given_or no_cells (why_alone r)).amounts ≡ replicate 25 (pos 0)) × ((given_or no_cells (why_alone r)).period ≡ no_medians)
  pub read_cells_accepted : (cells : List Slot) (r : Result CellsRead RefusedAt) → ReadCellsGives cells r → answer_number (why_alone r) ≡ 0 → part_number r ≡ 0
  pub read_workbook_refused : (bs : List ℕ) (r : Result WorkbookInput Refusal) → ReadWorkbookGives bs r → (answer_number r ≡ 0 → ⊥) → ((given_or no_input r).amounts ≡ replicate 25 (pos 0)) × ((given_or no_input r).first ≡ 0) × ((given_or no_input r).last ≡ 0)
  pub fill_refused : (bs : List ℕ) (r : Result (List Slot) Refusal) → FillGives bs r → (answer_number r ≡ 0 → ⊥) → given_or (replicate 28 empty_slot) r ≡ replicate 28 empty_slot
  pub print_cell_refused : (index : ℕ) (cell : Cell) (r : Result Text Refusal) → PrintCellGives index cell r → (answer_number r ≡ 0 → ⊥) → given_or (text_of []) r ≡ text_of []
  -- and of a minute or an outage that is not printed an empty text
  pub print_minute_refused : (minute : ℕ) (r : Result Text Refusal) → PrintMinuteGives minute r → (answer_number r ≡ 0 → ⊥) → given_or (text_of []) r ≡ text_of []
  pub print_outage_refused : (e : Entry) (r : Result Text Refusal) → PrintOutageGives e r → (answer_number r ≡ 0 → ⊥) → given_or (text_of []) r ≡ text_of []
