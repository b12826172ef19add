-- The shorter field has the cause 1; the longer one has its last byte, and a 1 there is none.
use Rattle.std.proofs.Common.{◌≡◌, ℕ, false, sym, ◌∙◌, arith}
use Rattle.codec.specs.Fields.{framed}
use Rattle.codec.specs.Leaves.{Spells}
use Rattle.codec.proofs.Found.{Whole, whole_there, spells}
use Rattle.plan_message.specs.Form.{plan_tag}
use Rattle.plan_message.proofs.Laws.{plain_begins, no_plan, cause_but_one}
use Rattle.plan_message.proofs.cause_in.Goals as goal

pub returns-then-is_field : goal.returns-then-is_field
returns-then-is_field c = plain_begins c.args.s.now (sym c.is_field.ensures ∙ c.if-is_field.true)

pub returns-then-not-is_field : goal.returns-then-not-is_field
returns-then-not-is_field c =
    no_plan c.args.s.now (sym c.is_field.ensures ∙ c.if-is_field.false) (sym c.is_field-2.ensures ∙ c.if-not-is_field.true)

pub overflow_cast-cause : goal.overflow_cast-cause
overflow_cast-cause c =
    let whole : Whole c.args.s.now 0 plan_tag 15 = whole_there (λ (i : ℕ). omega (arith, c.type_inv.s i)) c.is_field-2.ensures c.if-not-is_field.false in
    let last : Spells c.args.s.now 17 1 c.number-cause.result = spells whole (omega arith) (omega arith) c.number-cause.ensures in
    omega (arith, last.small)

pub returns : goal.returns
returns c =
    let s = c.args.s.now in
    let not_plain : framed plan_tag 14 s ≡ false = sym c.is_field.ensures ∙ c.if-is_field.false in
    let whole : Whole s 0 plan_tag 15 = whole_there (λ (i : ℕ). omega (arith, c.type_inv.s i)) c.is_field-2.ensures c.if-not-is_field.false in
    let last : Spells s 17 1 c.number-cause.result = spells whole (omega arith) (omega arith) c.number-cause.ensures in
    rw c.then_some.ensures (cause_but_one s not_plain whole.is last)
