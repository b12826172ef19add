-- A year that fits is put in at its place.
use Rattle.std.proofs.Common.{◌∙◌, ap, get_or}
use Rattle.balances.specs.declared.assessing.Yearly.{Yearly}
use Rattle.assessment.specs.Period.{year_fits, yearly_of}
use Rattle.assessment.specs.Steps.{with_row}
use Rattle.assessment.proofs.Years.{no_year, brought, fits_found, fits_next, yearly_on}
use Rattle.assessment.proofs.amounts_of.Goals as goal

pub loop-k-preserved : goal.loop-k-preserved
loop-k-preserved c =
    let a = c.args in
    let years = a.years.now in
    let k = c.loop-k.k in
    let y = get_or years k no_year in
    let row = c.in_ok-row_of.field-0 in
    let fits = fits_found (year_fits a.book a.log y) row (brought a.book years a.log y) c.in_ok-row_of.ensures in
    record {
      amounts =
          c.with_row-yearly.ensures
          ∙ ap (λ (z : Yearly). with_row z k row) c.loop-k.invariant.amounts
          ∙ ap (with_row (yearly_of a.book years a.log k) k) fits.1
          ∙ yearly_on a.book years a.log k no_year c.loop-k-test.true c.requires.0;
      rest = c.loop-k.invariant.rest ∙ fits_next a.book years a.log k no_year c.loop-k-test.true fits.0;
    }
