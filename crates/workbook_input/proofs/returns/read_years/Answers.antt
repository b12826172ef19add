-- Each return is read behind those before it, up to one that is none; behind the last there is nothing.
use Rattle.std.proofs.Common.{Bool, sym, ap, ◌∙◌, arith}
use Rattle.std.specs.Prelude.{Some}
use Rattle.codec.specs.Format.{when}
use Rattle.workbook_input.proofs.Reading.{no_days, one_read, one_refused, followed, alone}
use Rattle.workbook_input.proofs.returns.read_years.Goals as goal
use Rattle.workbook_input.proofs.returns.read_years.Goals.{then-at-s-via-then-at-s, then-at-s-via-else-at-s+then-not-one_period}

pub loop-y-preserved : goal.loop-y-preserved
loop-y-preserved c = one_read c.loop-y.invariant c.next_return.result c.next_return.ensures c.loop-y-test.true c.in_ok-next.next c.in_ok-next.was

pub returns-then-s-lt-DAYS : goal.returns-then-s-lt-DAYS
returns-then-s-lt-DAYS c = no_days c.args.s.now c.if-s-lt-DAYS.true

pub returns-in_err-next : goal.returns-in_err-next
returns-in_err-next c = c.from_residual.ensures ∙ one_refused c.loop-y.invariant c.next_return.result c.next_return.ensures c.loop-y-test.true c.in_err-next.was c.if-s-lt-DAYS.false

pub returns-then-at-s : goal.returns-then-at-s
returns-then-at-s c =
    elim c.then-at-s.branch [
      | then-at-s-via-then-at-s w ↦ followed c.loop-y.invariant (omega (arith, c.loop-y-test.false)) c.if-s-lt-DAYS.false w.if-at-s.true
      | then-at-s-via-else-at-s+then-not-one_period w ↦
          (let no = sym w.one_period.ensures ∙ w.if-not-one_period.true in
          sym (ap (λ (b : Bool). when b (Some c.loop-y.y-items)) no) ∙ alone c.loop-y.invariant (omega (arith, c.loop-y-test.false)) c.if-s-lt-DAYS.false w.if-at-s.false)
    ]

pub returns : goal.returns
returns c =
    let yes = sym c.one_period.ensures ∙ c.if-not-one_period.false in
    sym (ap (λ (b : Bool). when b (Some c.loop-y.y-items)) yes) ∙ alone c.loop-y.invariant (omega (arith, c.loop-y-test.false)) c.if-s-lt-DAYS.false c.if-at-s.false
