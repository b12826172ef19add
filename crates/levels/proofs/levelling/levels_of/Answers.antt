-- What the calls on the way answered makes the levels.
use Rattle.std.proofs.Common.{rules, ◌≡◌, ◌∙◌, sym, false, Err, refl}
use Rattle.money.proofs.Pounds.{wire}
use Rattle.year.specs.Year.{good_year}
use Rattle.year.proofs.Says.{checked_bad, checked_good}
use Rattle.levels.proofs.Levelled.{gives_no_target, gives_no_year, gives_large, gives_levels}
use Rattle.levels.proofs.levelling.levels_of.Goals as goal
use Rattle.levels.proofs.levelling.levels_of.Goals.{then-not-within-via-then-not-within, then-not-within-via-else-not-within+then-not-within-2}

pub returns-in_err-met : goal.returns-in_err-met
returns-in_err-met c =
    let a = c.args in
    let why = c.in_err-met.field-0.0 in
    let e : c.from_residual.result ≡ Err why = search rules in
    rw e (gives_no_target a.book a.y a.log why c.in_err-met.ensures.0)

pub returns-in_err-check_year : goal.returns-in_err-check_year
returns-in_err-check_year c =
    let a = c.args in
    let why = c.in_err-check_year.field-0.0 in
    let e : c.from_residual-in_err-check_year.result ≡ Err why = search rules in
    let bad : good_year a.y ≡ false = checked_bad a.y c.check_year.result c.check_year.ensures why c.in_err-check_year.was in
    rw e (gives_no_year a.book a.y a.log c.in_ok-met.ensures why bad (rw bad at c.in_err-check_year.ensures))

pub returns-then-not-within : goal.returns-then-not-within
returns-then-not-within c =
    let a = c.args in
    let good = checked_good a.y c.check_year.result c.check_year.ensures c.in_ok-check_year.was in
    let cap = wire c.cap_of-cap.result c.cap_of-cap.type_inv ∙ c.cap_of-cap.ensures in
    let floor = wire c.floor_of-floor.result c.floor_of-floor.type_inv ∙ c.floor_of-floor.ensures in
    gives_large a.book a.y a.log c.in_ok-met.ensures good cap floor
    (elim c.then-not-within.branch [
      | then-not-within-via-then-not-within w ↦ rw (sym c.within.ensures ∙ w.if-not-within.true) refl
      | then-not-within-via-else-not-within+then-not-within-2 w ↦
          rw (sym c.within.ensures ∙ w.if-not-within.false, sym w.within-else-not-within.ensures ∙ w.if-not-within-2.true) refl
    ])

pub returns : goal.returns
returns c =
    let a = c.args in
    let good = checked_good a.y c.check_year.result c.check_year.ensures c.in_ok-check_year.was in
    let cap = wire c.cap_of-cap.result c.cap_of-cap.type_inv ∙ c.cap_of-cap.ensures in
    let floor = wire c.floor_of-floor.result c.floor_of-floor.type_inv ∙ c.floor_of-floor.ensures in
    gives_levels a.book a.y a.log c.in_ok-met.ensures good cap floor
    (rw (sym c.within.ensures ∙ c.if-not-within.false, sym c.within-else-not-within.ensures ∙ c.if-not-within-2.false) refl)
