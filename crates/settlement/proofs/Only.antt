-- Each call answers and no second answer fits, and its rows stand in the order of refusals. Assumes nothing.
use mathlib.Core.Path.{◌≡◌, refl, sym, ◌∙◌}
use mathlib.Core.Bool.{true}
use Prim.Native.Nat.{ℕ}
use lib.IntN.{ℤ, pos, nat_abs, ◌-ℤ◌}
use Rattle.std.specs.Prelude.{Result}
use Rattle.refusals.specs.declared.Refusal.{Refusal}
use Rattle.refusals.specs.Order.{in_turn, in_order_of}
use Rattle.refusals.specs.Answers.{One}
use Rattle.refusals.proofs.Cases.{same_case, one_case}
use Rattle.settlement.specs.declared.medians.Period.{Period}
use Rattle.settlement.specs.Gap.{day_sum, hundredths}
use Rattle.settlement.specs.Growth.{growth_of, paid_of}
use Rattle.settlement.specs.Calls.{gap_rows, GapGives, growth_rows, GrowthGives, pay_rows, PayGives, settle_rows, SettleGives, reconcile_rows, ReconcileGives}

-- ---- the calls
pub only_gap : (earlier later : Period) (r s : Result ℕ Refusal) → GapGives earlier later r → GapGives earlier later s → r ≡ s
only_gap earlier later r s p q = same_case 0 r s (p.0 ∙ sym q.0) (p.1 ∙ sym q.1)

pub one_gap : (earlier later : Period) → One (GapGives earlier later)
one_gap earlier later = one_case 0 (gap_rows earlier later) (nat_abs (hundredths (day_sum earlier) (day_sum later)))

pub only_growth : (n : ℕ) (r s : Result ℕ Refusal) → GrowthGives n r → GrowthGives n s → r ≡ s
only_growth n r s p q = same_case 0 r s (p.0 ∙ sym q.0) (p.1 ∙ sym q.1)

pub one_growth : (n : ℕ) → One (GrowthGives n)
one_growth n = one_case 0 (growth_rows n) (growth_of n)

pub only_pay : (amount : ℤ) (n : ℕ) (r s : Result ℤ Refusal) → PayGives amount n r → PayGives amount n s → r ≡ s
only_pay amount n r s p q = same_case (pos 0) r s (p.0 ∙ sym q.0) (p.1 ∙ sym q.1)

pub one_pay : (amount : ℤ) (n : ℕ) → One (PayGives amount n)
one_pay amount n = one_case (pos 0) (pay_rows amount n) (paid_of amount n)

pub only_settle : (adjustment : ℤ) (measured settled : Period) (r s : Result ℤ Refusal)
    → SettleGives adjustment measured settled r → SettleGives adjustment measured settled s → r ≡ s
only_settle adjustment measured settled r s p q = same_case (pos 0) r s (p.0 ∙ sym q.0) (p.1 ∙ sym q.1)

pub one_settle : (adjustment : ℤ) (measured settled : Period) → One (SettleGives adjustment measured settled)
one_settle adjustment measured settled =
    one_case (pos 0) (settle_rows adjustment measured settled) (paid_of adjustment (nat_abs (hundredths (day_sum measured) (day_sum settled))))

pub only_reconcile : (final provisional : ℤ) (settled reconciled : Period) (r s : Result ℤ Refusal)
    → ReconcileGives final provisional settled reconciled r → ReconcileGives final provisional settled reconciled s → r ≡ s
only_reconcile final provisional settled reconciled r s p q = same_case (pos 0) r s (p.0 ∙ sym q.0) (p.1 ∙ sym q.1)

pub one_reconcile : (final provisional : ℤ) (settled reconciled : Period) → One (ReconcileGives final provisional settled reconciled)
one_reconcile final provisional settled reconciled = one_settle (final -ℤ provisional) settled reconciled

-- ---- each call's rows stand in the order of refusals
pub gap_in_turn : (earlier later : Period) → in_order_of in_turn (gap_rows earlier later) ≡ true
gap_in_turn earlier later = refl

pub growth_in_turn : (n : ℕ) → in_order_of in_turn (growth_rows n) ≡ true
growth_in_turn n = refl

pub pay_in_turn : (amount : ℤ) (n : ℕ) → in_order_of in_turn (pay_rows amount n) ≡ true
pay_in_turn amount n = refl

pub settle_in_turn : (adjustment : ℤ) (measured settled : Period) → in_order_of in_turn (settle_rows adjustment measured settled) ≡ true
settle_in_turn adjustment measured settled = refl

pub reconcile_in_turn : (final provisional : ℤ) (settled reconciled : Period)
    → in_order_of in_turn (reconcile_rows final provisional settled reconciled) ≡ true
reconcile_in_turn final provisional settled reconciled = refl
