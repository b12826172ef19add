-- No year starts later than year 25, so the start of the next year fits.
use Rattle.std.proofs.Common.{◌≡◌, ℕ, suc, ◌+◌, ap, ◌∙◌, arith}
use Rattle.calendar.specs.Years.{year_start}
use Rattle.calendar.proofs.Laws.{latest_start}
use Rattle.calendar.proofs.next_start.Goals as goal

pub overflow_add-result : goal.overflow_add-result
overflow_add-result c =
    let next : c.args.start + c.year_length.result ≡ year_start (suc c.args.year) =
    ap (λ (x : ℕ). x + c.year_length.result) c.requires.2 ∙ c.year_length.ensures
    in
    omega (arith, next, latest_start (suc c.args.year) (omega arith) (omega (arith, c.requires.1)))
