-- `settlement::paying::grown`: the magnitude grown and cut, and the sign restored.
use Rattle.std.proofs.Common.{◌≡◌, ℕ, ◌*◌, ◌/◌, ◌<◌, ap, ◌∙◌, true, false}
use lib.IntN.{ℤ, pos, neg_ℤ, nat_abs}
use lib.Signed.{lt_z}
use mir.Facts.{to_z-of_z}
use mir.Syntax.{w64}
use mir.Val.{SFits, to_z, of_z}
use Rattle.money.specs.Pounds.{saturated}
use Rattle.money.proofs.Pounds.{wire}
use Rattle.settlement.specs.Growth.{growth_of}
use Rattle.settlement.proofs.Amounts.{paid_fits, debit_is, credit_is}
use Rattle.settlement.proofs.paying.grown.Goals as goal

-- what is left of the magnitude's product with the entry
cut_is : (z : ℤ) (n m e : ℕ) → SFits w64 z → m ≡ nat_abs (to_z w64 (of_z w64 z)) → (e ≡ growth_of n) × (e < 1300000000) → m * e / 1000000000 ≡ nat_abs z * growth_of n / 1000000000
cut_is z n m e f x y = rw (x ∙ ap nat_abs (to_z-of_z f), y.0)

pub returns-then-amount-lt0 : goal.returns-then-amount-lt0
returns-then-amount-lt0 c =
    let z = c.args.amount in
    let n = c.args.n in
    let negative : lt_z z (pos 0) ≡ true = cc (to_z-of_z c.ranges.amount) in
    wire c.debit.result c.debit.type_inv
    ∙ c.debit.ensures
    ∙ ap (λ (m : ℕ). saturated (neg_ℤ (pos m))) (cut_is z n c.unsigned_abs.result c.entry.result c.ranges.amount c.unsigned_abs.ensures.value c.entry.ensures)
    ∙ debit_is z n (paid_fits z n c.requires.0 c.requires.1) negative

pub returns-else-amount-lt0 : goal.returns-else-amount-lt0
returns-else-amount-lt0 c =
    let z = c.args.amount in
    let n = c.args.n in
    let not_negative : lt_z z (pos 0) ≡ false = cc (to_z-of_z c.ranges.amount) in
    wire c.credit.result c.credit.type_inv
    ∙ c.credit.ensures
    ∙ ap (λ (m : ℕ). saturated (pos m)) (cut_is z n c.unsigned_abs.result c.entry.result c.ranges.amount c.unsigned_abs.ensures.value c.entry.ensures)
    ∙ credit_is z n (paid_fits z n c.requires.0 c.requires.1) not_negative
