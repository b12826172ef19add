-- Each exit of the reading gives what the steps before it found.
use Rattle.std.proofs.Common.{◌≡◌, refl, ap, ◌∙◌, arith, rules}
use mir.Syntax.{w64}
use mir.Val.{SFits}
use mir.ValLaws.{to_z-of_z}
use Rattle.std.specs.Prelude.{Err}
use Rattle.std.proofs.lemmas.Result.{err_from_is_err_and}
use Rattle.return_format.specs.Return.{refused_at}
use Rattle.return_reading.proofs.Found.{refused_is}
use Rattle.return_reading.proofs.Whole.{too_long, not_there, no_factors, left_over, none_left, gives_refused, gives_whole}
use Rattle.return_reading.proofs.read_return.Goals as goal

pub returns-then-s-gt-MOST_BYTES : goal.returns-then-s-gt-MOST_BYTES
returns-then-s-gt-MOST_BYTES c = gives_refused c.args.s.now 8192 c.refused.result c.refused.ensures (too_long c.args.s.now c.if-s-gt-MOST_BYTES.true)

pub returns-in_err-head : goal.returns-in_err-head
returns-in_err-head c =
    let s = c.args.s.now in
    let p = err_from_is_err_and c.from_residual.result c.from_residual.ensures.1 in
    let x = c.in_err-head.field-0.0 in
    let h = c.in_err-head.ensures in
    rw (p.1 ∙ ap Err p.2) (gives_refused s x.at x (λ i. record { why = h.0 i; at = x.at }) (not_there s (omega arith) x.at h.1))

pub returns-in_err-factors : goal.returns-in_err-factors
returns-in_err-factors c =
    let s = c.args.s.now in
    let p = err_from_is_err_and c.from_residual-in_err-factors.result c.from_residual-in_err-factors.ensures.1 in
    let h = c.in_err-factors.ensures in
    let is : c.from_residual-in_err-factors.result ≡ Err (refused_at 23) = p.1 ∙ ap Err (p.2 ∙ refused_is h.value h.ok_part ∙ c.refused-2.ensures) in
    rw is (gives_refused s 23 (refused_at 23) refl (no_factors s (omega arith) c.in_ok-head.ensures (rw (h.ok_part) at c.factors_from.ensures)))

pub returns-then-tail-s : goal.returns-then-tail-s
returns-then-tail-s c =
    let s = c.args.s.now in
    gives_refused s _ c.refused-then-tail-s.result c.refused-then-tail-s.ensures
    (left_over s (omega arith) c.in_ok-head.ensures (rw (c.in_ok-factors.ensures.ok_part) at c.factors_from.ensures) c.tail_from-tail.ensures c.if-tail-s.true)

pub returns : goal.returns
returns c =
    let s = c.args.s.now in
    let z = c.tail_from-tail.result.value.wpa in
    let x : SFits w64 z = search rules in
    rw (to_z-of_z w64 z x)
    (gives_whole s _ (none_left s (omega arith) c.in_ok-head.ensures (rw (c.in_ok-factors.ensures.ok_part) at c.factors_from.ensures) c.tail_from-tail.ensures c.if-tail-s.false))
