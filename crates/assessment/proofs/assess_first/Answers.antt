-- The book and the log were found good on the way, and the years those of one period; then the balances' answer is the period's.
use Rattle.std.proofs.Common.{rules, arith, ◌≡◌, ◌∙◌, sym, ap, subst, true, false, Err, List, length, take}
use Rattle.std.proofs.lemmas.List.{take_all}
use Rattle.lists.specs.Lists.{all}
use Rattle.year.specs.declared.Year.{Year}
use Rattle.balances.specs.declared.assessing.Yearly.{Yearly}
use Rattle.balances.specs.Assessment.{YearsGives}
use Rattle.balances.proofs.Ranges.{count_says}
use Rattle.assessment.specs.Period.{year_fits, yearly_of, good_period_years}
use Rattle.assessment.proofs.Years.{fits_found, fits_refused}
use Rattle.assessment.proofs.Period.{good_records, gives_no_start, book_told, log_told, gives_no_years, gives_no_amounts, gives_assessed}
use Rattle.assessment.proofs.assess_first.Goals as goal

whole : (years : List Year) → take (length years) years ≡ years
whole years = take_all (length years) years (omega arith)

pub returns-in_err-availability_of : goal.returns-in_err-availability_of
returns-in_err-availability_of c =
    let a = c.args in
    let years = a.years.now in
    let why = c.in_err-availability_of.field-0.0 in
    let e : c.from_residual.result ≡ Err why = search rules in
    rw e (gives_no_start a.book years a.log (length years) why c.in_err-availability_of.ensures.0)

pub good_period_years-requires : goal.good_period_years-requires
good_period_years-requires c = let s = count_says (length c.args.years.now) c.requires in (omega arith, omega arith)

pub returns-then-not-good_period_years : goal.returns-then-not-good_period_years
returns-then-not-good_period_years c =
    let a = c.args in
    let years = a.years.now in
    gives_no_years a.book years a.log (length years) c.in_ok-availability_of.ensures (sym c.good_period_years.ensures ∙ c.if-not-good_period_years.true)

pub amounts_of-requires : goal.amounts_of-requires
amounts_of-requires c =
    let a = c.args in
    let years = a.years.now in
    let n = length years in
    let told = c.in_ok-availability_of.ensures in
    let good = good_records years n (sym c.good_period_years.ensures ∙ c.if-not-good_period_years.false) in
    ((count_says n c.requires).room, book_told a.book years a.log n told, log_told a.book years a.log n told, rw (whole years) at good)

pub returns-in_err-yearly : goal.returns-in_err-yearly
returns-in_err-yearly c =
    let a = c.args in
    let years = a.years.now in
    let n = length years in
    let why = c.in_err-yearly.field-0.0 in
    let e : c.from_residual-in_err-yearly.result ≡ Err why = search rules in
    let bad = fits_refused (all (year_fits a.book a.log) years) (yearly_of a.book years a.log n) why c.in_err-yearly.ensures in
    let fits : all (year_fits a.book a.log) (take n years) ≡ false = ap (all (year_fits a.book a.log)) (whole years) ∙ bad.0 in
    rw (e, bad.1)
    (gives_no_amounts a.book years a.log n c.in_ok-availability_of.ensures (sym c.good_period_years.ensures ∙ c.if-not-good_period_years.false) fits)

pub returns : goal.returns
returns c =
    let a = c.args in
    let years = a.years.now in
    let n = length years in
    let found = fits_found (all (year_fits a.book a.log) years) c.in_ok-yearly.yearly (yearly_of a.book years a.log n) c.in_ok-yearly.ensures in
    let fits : all (year_fits a.book a.log) (take n years) ≡ true = ap (all (year_fits a.book a.log)) (whole years) ∙ found.0 in
    gives_assessed a.book years a.log n c.in_ok-availability_of.ensures c.requires (omega arith) (sym c.good_period_years.ensures ∙ c.if-not-good_period_years.false) fits c.assess_years.result
    (subst (λ (z : Yearly). YearsGives z n c.assess_years.result) found.1 c.assess_years.ensures)
