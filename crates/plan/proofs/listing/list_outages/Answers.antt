-- Each outage that goes through is listed, and the first that fails is told.
use Rattle.std.proofs.Common.{◌≡◌, ◌+◌, subst, sym, ap, ◌∙◌, Err, rules}
use Rattle.std.proofs.Math.ListN.{replicate, set}
use Rattle.refusals.specs.Refusals.{answer_number, first_applicable, refusal_number}
use Rattle.refusals.specs.declared.RefusedAt.{RefusedAt}
use Rattle.entries.specs.declared.Entry.{Entry}
use Rattle.plan.specs.Calls.{outage_rows}
use Rattle.plan.proofs.Lists.{Lists, none_listed, one_listed, gives_failed, gives_all}
use Rattle.plan.proofs.listing.list_outages.Goals as goal

pub loop-k-init : goal.loop-k-init
loop-k-init c =
    let a = c.args in
    none_listed a.regime_end a.plan c.requires.0 c.requires.1 _ (ap (replicate 400) c.zero-entries.ensures)

pub returns-in_err-map_err : goal.returns-in_err-map_err
returns-in_err-map_err c =
    let a = c.args in
    let x = c.in_err-map_err.field-0.0 in
    let e : c.from_residual.result ≡ Err x = search rules in
    let n : refusal_number x.why ≡ answer_number c.check_outage.result = search rules in
    let k : x.at ≡ c.loop-k.k + 1 = search rules in
    rw (e, k)
    (gives_failed a.regime_end a.plan c.requires.0 c.requires.1 c.loop-k.invariant c.loop-k-test.true x.why
    (n ∙ c.check_outage.ensures ∙ ap (λ (e : Entry). first_applicable (outage_rows a.regime_end e)) c.outage-e.ensures))

pub loop-k-preserved : goal.loop-k-preserved
loop-k-preserved c =
    let a = c.args in
    let n : answer_number c.check_outage.result ≡ 0 = search rules in
    rw (c.from-slot.ensures, c.outage-e.ensures)
    (one_listed a.regime_end a.plan c.requires.0 c.requires.1 c.loop-k.invariant c.loop-k-test.true
    (ap (λ (e : Entry). first_applicable (outage_rows a.regime_end e)) (sym c.outage-e.ensures) ∙ sym c.check_outage.ensures ∙ n))

pub returns : goal.returns
returns c =
    let a = c.args in
    rw c.from.ensures
    (gives_all a.regime_end a.plan c.requires.0 c.requires.1 c.loop-k.invariant c.loop-k-test.false)
