-- No digit, one digit, or the digits of the tenth and then the last.
use Rattle.std.proofs.Common.{◌≡◌, ℕ, ◌+◌, ◌%◌, [], ◌∷◌, arith, ap, ◌∙◌}
use Rattle.text.specs.Text.{pushed, digits}
use Rattle.text.proofs.Laws.{then, digits_one, digits_more}
use Rattle.text.proofs.+push_digits.Goals as goal

pub returns-then-k-eq0 : goal.returns-then-k-eq0
unfolding pushed digits
returns-then-k-eq0 t c = rw c.if-k-eq0.true

pub returns-then-n-lt10 : goal.returns-then-n-lt10
returns-then-n-lt10 t c =
    let last : c.args.n % 10 ≡ c.args.n = omega arith in
    rw (digits_one c.args.k c.args.n c.if-k-eq0.false (omega arith)) (c.push.ensures ∙ ap (λ (d : ℕ). pushed c.args.t ((48 + d) ∷ [])) last)

pub returns : goal.returns
returns t c =
    rw (digits_more c.args.k c.args.n c.if-k-eq0.false (omega arith)) (then _ _ _ c.push_digits.ensures c.push-2.ensures)
