-- Too many bytes, no field, bytes behind it, or a plan.
use Rattle.std.proofs.Common.{arith}
use Rattle.plan_message.specs.Form.{most_bytes}
use Rattle.plan_message.specs.Steps.{message_bytes}
use Rattle.plan_message.proofs.Answers.{too_long, no_field, followed, alone, gives_refused, gives_plan}
use Rattle.plan_message.proofs.read_plan.Goals as goal

pub returns-then-s-gt-MOST_BYTES : goal.returns-then-s-gt-MOST_BYTES
returns-then-s-gt-MOST_BYTES c =
    let s = c.args.s.now in
    rw c.malformed.ensures (gives_refused s most_bytes (too_long s (omega arith)))

-- they begin with no field of a plan
pub returns-in_default : goal.returns-in_default
returns-in_default c =
    let s = c.args.s.now in
    rw c.malformed-in_default.ensures (gives_refused s 0 (no_field s (omega arith) c.in_default.ensures))

pub returns-then-bytes-s : goal.returns-then-bytes-s
returns-then-bytes-s c =
    let s = c.args.s.now in
    let m = c.message_bytes-bytes.ensures in
    rw (c.malformed-then-bytes-s.ensures, m) (gives_refused s (message_bytes c.first_plan-plan.result) (followed s (omega arith) c.first_plan-plan.ensures (omega (arith, m))))

pub returns : goal.returns
returns c =
    let s = c.args.s.now in
    gives_plan s c.first_plan-plan.result (alone s (omega arith) c.first_plan-plan.ensures (omega (arith, c.message_bytes-bytes.ensures)))
