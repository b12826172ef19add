-- The five numbers are read from bytes that are there, so each fits its width.
use Rattle.std.proofs.Common.{ℕ, arith}
use Rattle.codec.specs.Leaves.{Spells}
use Rattle.plan_message.proofs.Laws.{number_in, plan_read}
use Rattle.plan_message.proofs.first_plan.Goals as goal

pub overflow_cast-result : goal.overflow_cast-result
overflow_cast-result c =
    let start : Spells c.args.s.now 3 4 c.number-start.result = number_in c.requires (λ (i : ℕ). omega (arith, c.type_inv.s i)) (omega arith) (omega arith) c.number-start.ensures in
    omega (arith, start.small)

pub overflow_cast-result-2 : goal.overflow_cast-result-2
overflow_cast-result-2 c =
    let length : Spells c.args.s.now 7 4 c.number-length.result = number_in c.requires (λ (i : ℕ). omega (arith, c.type_inv.s i)) (omega arith) (omega arith) c.number-length.ensures in
    omega (arith, length.small)

pub overflow_cast-result-3 : goal.overflow_cast-result-3
overflow_cast-result-3 c =
    let step : Spells c.args.s.now 11 2 c.number-step.result = number_in c.requires (λ (i : ℕ). omega (arith, c.type_inv.s i)) (omega arith) (omega arith) c.number-step.ensures in
    omega (arith, step.small)

pub overflow_cast-result-4 : goal.overflow_cast-result-4
overflow_cast-result-4 c =
    let count : Spells c.args.s.now 13 2 c.number-count.result = number_in c.requires (λ (i : ℕ). omega (arith, c.type_inv.s i)) (omega arith) (omega arith) c.number-count.ensures in
    omega (arith, count.small)

pub overflow_cast-result-5 : goal.overflow_cast-result-5
overflow_cast-result-5 c =
    let mw : Spells c.args.s.now 15 2 c.number-mw.result = number_in c.requires (λ (i : ℕ). omega (arith, c.type_inv.s i)) (omega arith) (omega arith) c.number-mw.ensures in
    omega (arith, mw.small)

pub returns : goal.returns
returns c =
    let start : Spells c.args.s.now 3 4 c.number-start.result = number_in c.requires (λ (i : ℕ). omega (arith, c.type_inv.s i)) (omega arith) (omega arith) c.number-start.ensures in
    let length : Spells c.args.s.now 7 4 c.number-length.result = number_in c.requires (λ (i : ℕ). omega (arith, c.type_inv.s i)) (omega arith) (omega arith) c.number-length.ensures in
    let step : Spells c.args.s.now 11 2 c.number-step.result = number_in c.requires (λ (i : ℕ). omega (arith, c.type_inv.s i)) (omega arith) (omega arith) c.number-step.ensures in
    let count : Spells c.args.s.now 13 2 c.number-count.result = number_in c.requires (λ (i : ℕ). omega (arith, c.type_inv.s i)) (omega arith) (omega arith) c.number-count.ensures in
    let mw : Spells c.args.s.now 15 2 c.number-mw.result = number_in c.requires (λ (i : ℕ). omega (arith, c.type_inv.s i)) (omega arith) (omega arith) c.number-mw.ensures in
    plan_read c.requires (λ (i : ℕ). omega (arith, c.type_inv.s i)) start length step count mw
