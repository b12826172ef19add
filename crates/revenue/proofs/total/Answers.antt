-- Each line is added to one of the two sums, and that of kind 2 is lifted at the end.
use Rattle.std.proofs.Common.{true, false, ◌≡◌, ◌∙◌, ◌<◌, length, get_or, arith, to_z, w64}
use Rattle.money.proofs.Pounds.{wire}
use Rattle.year.specs.Year.{zero_line}
use Rattle.revenue.specs.Revenue.{at_least_zero}
use Rattle.revenue.proofs.Sums.{lifted_is, in_cmr, in_others, added_none, added_next, added_same, added_total}
use Rattle.revenue.proofs.total.Goals as goal
use Rattle.revenue.proofs.total.Goals.{then-l-eq-CMR, else-l-eq-CMR}

pub loop-l-init : goal.loop-l-init
loop-l-init c = record {
  others = added_none false c.args.rate c.args.lines.now;
  cmr = added_none true c.args.rate c.args.lines.now;
}

pub loop-l-preserved : goal.loop-l-preserved
loop-l-preserved c =
    let l = get_or c.args.lines.now c.loop-l.l-index zero_line in
    let h : c.loop-l.l-index < length c.args.lines.now = omega arith in
    let few : c.loop-l.l-index < 64 = omega arith in
    let read = wire c.pounds-amount.result c.pounds-amount.type_inv in
    let others = c.loop-l.invariant.others in
    let cmr = c.loop-l.invariant.cmr in
    elim c.if-l-eq-CMR.branch [
      | then-l-eq-CMR w ↦
          let e = in_cmr c.args.rate l w.if-l-eq-CMR.true c.pounds-amount.ensures.0 in
          let sum = w.cmr-is ∙ wire w.plus-cmr.result w.plus-cmr.type_inv ∙ rw read at w.plus-cmr.ensures in
          record { others = added_same h others e.1 w.others-is; cmr = added_next h few cmr e.0 c.pounds-amount.ensures.1 sum }
      | else-l-eq-CMR w ↦
          let e = in_others c.args.rate l w.if-l-eq-CMR.false c.pounds-amount.ensures.0 (rw read at w.counted.ensures.0) in
          let sum = w.others-is ∙ wire w.plus-others.result w.plus-others.type_inv ∙ rw (wire w.counted.result w.counted.type_inv) at w.plus-others.ensures in
          record { others = added_next h few others e.0 w.counted.ensures.1 sum; cmr = added_same h cmr e.1 w.cmr-is }
    ]

pub returns : goal.returns
returns c =
    let end : c.loop-l.l-index ≡ length c.args.lines.now = omega arith in
    let lifted : c.max.result ≡ at_least_zero (to_z w64 c.loop-l.cmr-bits) = c.max.ensures.value ∙ lifted_is (to_z w64 c.loop-l.cmr-bits) in
    wire c.plus.result c.plus.type_inv
    ∙ rw (wire c.max.result c.max.type_inv, lifted) at c.plus.ensures
    ∙ added_total c.args.lines.now c.requires.0 c.requires.1 (rw end at c.loop-l.invariant.others) (rw end at c.loop-l.invariant.cmr)
