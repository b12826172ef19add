-- The four required fields are read, or the place of the first that is not there is told.
use Rattle.std.proofs.Common.{◌≡◌, drop, refl, ap, ◌∙◌, arith}
use Rattle.std.specs.Prelude.{Err}
use Rattle.std.proofs.lemmas.Result.{err_from_is_err_and}
use Rattle.codec.proofs.Positions.{field_range}
use Rattle.return_format.specs.Return.{refused_at}
use Rattle.return_reading.proofs.Found.{refused_is, asked}
use Rattle.return_reading.proofs.Whole.{no_year, no_pppi, no_rate, no_aic, all_four}
use Rattle.return_reading.proofs.required_of.Goals as goal

pub returns-in_err-number : goal.returns-in_err-number
returns-in_err-number c =
    let p = err_from_is_err_and c.from_residual.result c.from_residual.ensures.1 in
    let is : c.from_residual.result ≡ Err (refused_at 0) = p.1 ∙ ap Err (p.2 ∙ refused_is c.in_err-number.ensures.value c.in_err-number.ensures.ok_part ∙ c.refused.ensures) in
    rw is (no_year c.args.s.now (asked 1 1 1 25 c.args.s.now (omega arith) c.from-least.ensures c.from-most.ensures c.number_field.ensures ∙ c.in_err-number.ensures.ok_part))

pub returns-in_err-pppi : goal.returns-in_err-pppi
returns-in_err-pppi c =
    let p = err_from_is_err_and c.from_residual-in_err-pppi.result c.from_residual-in_err-pppi.ensures.1 in
    let is : c.from_residual-in_err-pppi.result ≡ Err (refused_at 4) = p.1 ∙ ap Err (p.2 ∙ refused_is c.in_err-pppi.ensures.value c.in_err-pppi.ensures.ok_part ∙ c.refused-2.ensures) in
    rw is (no_pppi c.args.s.now (asked 1 1 1 25 c.args.s.now (omega arith) c.from-least.ensures c.from-most.ensures c.number_field.ensures ∙ c.in_ok-number.ensures.ok_part) (asked 2 4 5000 50000 (drop 4 c.args.s.now) (omega arith) c.from-least-2.ensures c.from-most-2.ensures c.number_field-2.ensures ∙ c.in_err-pppi.ensures.ok_part))

pub returns-in_err-rate : goal.returns-in_err-rate
returns-in_err-rate c =
    let p = err_from_is_err_and c.from_residual-in_err-rate.result c.from_residual-in_err-rate.ensures.1 in
    let is : c.from_residual-in_err-rate.result ≡ Err (refused_at 11) = p.1 ∙ ap Err (p.2 ∙ refused_is c.in_err-rate.ensures.value c.in_err-rate.ensures.ok_part ∙ c.refused-3.ensures) in
    rw is (no_rate c.args.s.now (asked 1 1 1 25 c.args.s.now (omega arith) c.from-least.ensures c.from-most.ensures c.number_field.ensures ∙ c.in_ok-number.ensures.ok_part) (asked 2 4 5000 50000 (drop 4 c.args.s.now) (omega arith) c.from-least-2.ensures c.from-most-2.ensures c.number_field-2.ensures ∙ c.in_ok-pppi.ensures.ok_part) (asked 3 4 1 200000 (drop 11 c.args.s.now) (omega arith) c.from-least-3.ensures c.from-most-3.ensures c.number_field-3.ensures ∙ c.in_err-rate.ensures.ok_part))

pub returns-in_err-aic : goal.returns-in_err-aic
returns-in_err-aic c =
    let p = err_from_is_err_and c.from_residual-in_err-aic.result c.from_residual-in_err-aic.ensures.1 in
    let is : c.from_residual-in_err-aic.result ≡ Err (refused_at 18) = p.1 ∙ ap Err (p.2 ∙ refused_is c.in_err-aic.ensures.value c.in_err-aic.ensures.ok_part ∙ c.refused-4.ensures) in
    rw is (no_aic c.args.s.now (asked 1 1 1 25 c.args.s.now (omega arith) c.from-least.ensures c.from-most.ensures c.number_field.ensures ∙ c.in_ok-number.ensures.ok_part) (asked 2 4 5000 50000 (drop 4 c.args.s.now) (omega arith) c.from-least-2.ensures c.from-most-2.ensures c.number_field-2.ensures ∙ c.in_ok-pppi.ensures.ok_part) (asked 3 4 1 200000 (drop 11 c.args.s.now) (omega arith) c.from-least-3.ensures c.from-most-3.ensures c.number_field-3.ensures ∙ c.in_ok-rate.ensures.ok_part) (asked 4 2 0 20000 (drop 18 c.args.s.now) (omega arith) refl c.from-most-4.ensures c.number_field-4.ensures ∙ c.in_err-aic.ensures.ok_part))

pub overflow_cast-result : goal.overflow_cast-result
overflow_cast-result c = omega (arith, field_range 1 1 1 25 c.args.s.now _ (asked 1 1 1 25 c.args.s.now (omega arith) c.from-least.ensures c.from-most.ensures c.number_field.ensures ∙ c.in_ok-number.ensures.ok_part))

pub overflow_cast-result-2 : goal.overflow_cast-result-2
overflow_cast-result-2 c = omega (arith, field_range 2 4 5000 50000 (drop 4 c.args.s.now) _ (asked 2 4 5000 50000 (drop 4 c.args.s.now) (omega arith) c.from-least-2.ensures c.from-most-2.ensures c.number_field-2.ensures ∙ c.in_ok-pppi.ensures.ok_part))

pub overflow_cast-result-3 : goal.overflow_cast-result-3
overflow_cast-result-3 c = omega (arith, field_range 3 4 1 200000 (drop 11 c.args.s.now) _ (asked 3 4 1 200000 (drop 11 c.args.s.now) (omega arith) c.from-least-3.ensures c.from-most-3.ensures c.number_field-3.ensures ∙ c.in_ok-rate.ensures.ok_part))

pub overflow_cast-result-4 : goal.overflow_cast-result-4
overflow_cast-result-4 c = omega (arith, field_range 4 2 0 20000 (drop 18 c.args.s.now) _ (asked 4 2 0 20000 (drop 18 c.args.s.now) (omega arith) refl c.from-most-4.ensures c.number_field-4.ensures ∙ c.in_ok-aic.ensures.ok_part))

pub returns : goal.returns
returns c =
    all_four c.args.s.now
    (asked 1 1 1 25 c.args.s.now (omega arith) c.from-least.ensures c.from-most.ensures c.number_field.ensures ∙ c.in_ok-number.ensures.ok_part)
    (asked 2 4 5000 50000 (drop 4 c.args.s.now) (omega arith) c.from-least-2.ensures c.from-most-2.ensures c.number_field-2.ensures ∙ c.in_ok-pppi.ensures.ok_part)
    (asked 3 4 1 200000 (drop 11 c.args.s.now) (omega arith) c.from-least-3.ensures c.from-most-3.ensures c.number_field-3.ensures ∙ c.in_ok-rate.ensures.ok_part)
    (asked 4 2 0 20000 (drop 18 c.args.s.now) (omega arith) refl c.from-most-4.ensures c.number_field-4.ensures ∙ c.in_ok-aic.ensures.ok_part)
