-- The adjustment in the licence's terms: SC3 4 to 8. No contract is stated by these definitions; theorems speak by them.
use Rattle.std.specs.Prelude.{cond, not, ℤ, pos, neg_ℤ, ◌-ℤ◌}
use Rattle.std.specs.Int.Signed.{lt_z}
use Rattle.money.specs.Pounds.{is_none}

-- SC3 5 and 6: the Revenue Excess At Cap
abbrev pub RRAC : ℤ → ℤ → ℤ
RRAC arn cln = arn -ℤ cln

abbrev pub REC : ℤ → ℤ → ℤ
REC arn cln = cond (lt_z (pos 0) (RRAC arn cln)) (RRAC arn cln) (pos 0)

-- SC3 7 and 8: the Revenue Shortfall At Floor
abbrev pub RRAF : ℤ → ℤ → ℤ
RRAF fln arn = fln -ℤ arn

abbrev pub RSF : ℤ → ℤ → ℤ
RSF fln arn = cond (lt_z (pos 0) (RRAF fln arn)) (RRAF fln arn) (pos 0)

-- SC3 4: the End Of Period Cap And Floor Revenue Adjustment, by its four cases
unfoldable pub CFA : ℤ → ℤ → ℤ → ℤ → ℤ
CFA arn cln fln wpan =
    cond (not (is_none (REC arn cln))) (neg_ℤ (REC arn cln) -ℤ wpan)
    (cond (not (is_none (RSF fln arn))) (RSF fln arn -ℤ wpan)
    (cond (not (is_none wpan)) (neg_ℤ wpan) (pos 0)))
