-- Each way out is at the first bad cell, and past them all is read.
use Rattle.std.proofs.Common.{◌≡◌, ◌≤◌, ◌<◌, List, ℕ, sym, ap, ◌∙◌, subst, refl, arith}
use Rattle.std.specs.Prelude.{Result, Err}
use Rattle.std.proofs.lemmas.Result.{err_from_is_err_and}
use Rattle.refusals.specs.declared.RefusedAt.{RefusedAt}
use Rattle.cells.specs.declared.Slot.{Slot}
use Rattle.settlement.specs.declared.medians.Period.{Period}
use Rattle.median_period.specs.declared.MedianPeriod.{MedianPeriod}
use Rattle.median_period.specs.Medians.{days_of, day_or}
use Rattle.workbook_cells.specs.declared.reading.CellsRead.{CellsRead}
use Rattle.workbook_cells.specs.Workbook.{first_bad}
use Rattle.workbook_cells.specs.Calls.{ReadCellsGives}
use Rattle.workbook_cells.specs.Steps.{bad_at, first_bad_number}
use Rattle.workbook_cells.proofs.FirstBad.{from_refused, from_read, bad_number_law, bad_first, bad_last, bad_median, none_bad}
use Rattle.workbook_cells.proofs.Answers.{refused_at, all_read}
use Rattle.workbook_cells.proofs.reading.read_cells.Goals as goal

-- refused at a cell that is bad
refused : (slots : List Slot) (e : RefusedAt) (index : ℕ) → e ≡ bad_at index → first_bad slots ≡ index → index < 28 → ReadCellsGives slots (Err e)
refused slots e index is b h = subst (λ (x : RefusedAt). ReadCellsGives slots (Err x)) (sym is) (refused_at slots index b h)

-- the two days, as they are tested
first_is : (p : MedianPeriod) (d : Period) → d ≡ days_of p → d.first ≡ day_or p.first
first_is p d e = ap (λ (x : Period). x.first) e

last_is : (p : MedianPeriod) (d : Period) → d ≡ days_of p → d.last ≡ day_or p.last
last_is p d e = ap (λ (x : Period). x.last) e

there : (p : MedianPeriod) (d : Period) → d ≡ days_of p → (d.first ≡ 0 → ⊥) → day_or p.first ≡ 0 → ⊥
there p d e h z = h (first_is p d e ∙ z)

past : (p : MedianPeriod) (d : Period) → d ≡ days_of p → d.last < d.first → day_or p.last < day_or p.first
past p d e h = omega (arith, first_is p d e, last_is p d e)

order : (p : MedianPeriod) (d : Period) → d ≡ days_of p → d.first ≤ d.last → day_or p.first ≤ day_or p.last
order p d e h = omega (arith, first_is p d e, last_is p d e)

pub returns-in_err-amounts : goal.returns-in_err-amounts
returns-in_err-amounts c =
    let slots = c.args.slots in
    let p = err_from_is_err_and c.from_residual.result c.from_residual.ensures.1 in
    let bad = from_refused slots c.in_err-amounts.field-0.0 c.in_err-amounts.ensures in
    subst (λ (r : Result CellsRead RefusedAt). ReadCellsGives slots r) (sym (p.1 ∙ ap (λ (e : RefusedAt). Err e) p.2))
    (refused slots c.in_err-amounts.field-0.0 (first_bad_number slots) bad.1 (bad_number_law slots (first_bad_number slots) refl bad.0)
    (omega (arith, bad.0)))

pub returns-then-days-eq0 : goal.returns-then-days-eq0
returns-then-days-eq0 c =
    let slots = c.args.slots in
    let p = c.period_in-period.result in
    let d = c.days-days.result in
    let numbers = (from_read slots c.in_ok-amounts.amounts c.in_ok-amounts.ensures).0 in
    refused slots c.bad_at.result 25 c.bad_at.ensures
    (bad_first slots numbers p c.period_in-period.ensures (sym (first_is p d c.days-days.ensures) ∙ c.if-days-eq0.true)) (omega arith)

pub returns-then-days : goal.returns-then-days
returns-then-days c =
    let slots = c.args.slots in
    let p = c.period_in-period.result in
    let d = c.days-days.result in
    let numbers = (from_read slots c.in_ok-amounts.amounts c.in_ok-amounts.ensures).0 in
    refused slots c.bad_at-then-days.result 26 c.bad_at-then-days.ensures
    (bad_last slots numbers p c.period_in-period.ensures
    (there p d c.days-days.ensures c.if-days-eq0.false) (past p d c.days-days.ensures c.if-days.true)) (omega arith)

pub returns-then-not-is_good : goal.returns-then-not-is_good
returns-then-not-is_good c =
    let slots = c.args.slots in
    let p = c.period_in-period.result in
    let d = c.days-days.result in
    let numbers = (from_read slots c.in_ok-amounts.amounts c.in_ok-amounts.ensures).0 in
    refused slots c.bad_at-then-not-is_good.result 27 c.bad_at-then-not-is_good.ensures
    (bad_median slots numbers p c.period_in-period.ensures
    (there p d c.days-days.ensures c.if-days-eq0.false) (order p d c.days-days.ensures c.if-days.false)
    (sym c.is_good.ensures ∙ c.if-not-is_good.true)) (omega arith)

pub returns : goal.returns
returns c =
    let slots = c.args.slots in
    let p = c.period_in-period.result in
    let d = c.days-days.result in
    let all = from_read slots c.in_ok-amounts.amounts c.in_ok-amounts.ensures in
    all_read slots c.in_ok-amounts.amounts p all.1 c.period_in-period.ensures
    (none_bad slots all.0 p c.period_in-period.ensures
    (there p d c.days-days.ensures c.if-days-eq0.false) (order p d c.days-days.ensures c.if-days.false)
    (sym c.is_good.ensures ∙ c.if-not-is_good.false))
