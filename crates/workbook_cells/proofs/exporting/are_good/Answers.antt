-- The amounts are tested in turn: the first bad one ends the chain.
use Rattle.std.proofs.Common.{◌≡◌, ℕ, true, false, not, ltb, ◌+◌, ◌-◌, ap, ◌∙◌, arith, rules, refl}
use Rattle.std.proofs.lemmas.Iterator.{cases_from_all, YieldsList-from_range}
use borrow.Author.Tests.{tests}
use mir.Facts.{to_z-of_z}
use Rattle.workbook_cells.specs.Workbook.{first_from, bad_amount}
use Rattle.workbook_cells.proofs.Tables.{each_tested}
use Rattle.workbook_cells.proofs.exporting.are_good.Goals as goal

pub returns : goal.returns
returns c =
    let from = c.args.from in
    let n = c.args.to - from in
    let bad = bad_amount c.args.amounts in
    let end : from + n ≡ c.args.to = omega arith in
    each_tested bad n from c.all.result
    (cases_from_all _ _ _ (λ x. bad x ≡ false) (λ x. bad x ≡ true) c.all.ensures.ran (YieldsList-from_range from c.args.to n refl refl)
    (λ x q k. search (rules, tests, to_z-of_z)) (λ x q k. search (rules, tests, to_z-of_z)))
    ∙ ap (λ (k : ℕ). not (ltb (first_from bad n from) k)) end
