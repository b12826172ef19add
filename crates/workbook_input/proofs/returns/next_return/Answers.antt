-- What is cut or no return is none, and what reading accepts is the next.
use Rattle.std.proofs.Common.{◌∙◌, arith}
use Rattle.workbook_input.proofs.Reading.{no_length, cut, no_return, is_next}
use Rattle.workbook_input.proofs.returns.next_return.Goals as goal

pub returns-in_err-rest : goal.returns-in_err-rest
returns-in_err-rest c = c.from_residual.ensures ∙ no_length c.args.s.now (omega (arith, c.in_err-rest.ensures.lookup))

pub returns-in_err-get : goal.returns-in_err-get
returns-in_err-get c =
    let rest = c.in_ok-rest.ensures.lookup.0 in
    c.from_residual-in_err-get.ensures
    ∙ cut c.args.s.now rest.0 c.in_ok-rest.rest.now rest.2 c.number-bytes.result c.number-bytes.ensures (omega (arith, c.in_err-get.ensures.lookup.0))

pub returns-in_err-year : goal.returns-in_err-year
returns-in_err-year c =
    let rest = c.in_ok-rest.ensures.lookup.0 in
    let own = c.in_ok-get.ensures.lookup.0 in
    c.from_residual-in_err-year.ensures
    ∙ no_return c.args.s.now rest.0 c.in_ok-rest.rest.now rest.2 c.number-bytes.result c.number-bytes.ensures own.1 c.in_ok-get.field-0.now own.2
    c.read_return.result c.read_return.ensures c.in_err-year.ensures.value

pub returns : goal.returns
returns c =
    let rest = c.in_ok-rest.ensures.lookup.0 in
    let own = c.in_ok-get.ensures.lookup.0 in
    is_next c.args.s.now rest.0 c.in_ok-rest.rest.now rest.2 c.number-bytes.result c.number-bytes.ensures own.1 c.in_ok-get.field-0.now own.2
    c.read_return.result c.read_return.ensures c.in_ok-year.year c.in_ok-year.ensures.value
