-- A euro line is converted, and twice its limit holds what comes of it.
use Rattle.std.proofs.Common.{◌≡◌, ◌∙◌, arith, to_z, of_z, w64}
use borrow.Author.Tests.{ne_eqb}
use lib.Dec.{lit<}
use mir.Facts.{to_z-of_z}
use native.Mathlib.Nat.{mul-le-mul}
use Rattle.money.specs.Rounding.{scaled_of}
use Rattle.money.proofs.Pounds.{wire, sfits}
use Rattle.money.proofs.Nearest.{scaled_is, scaled_small}
use Rattle.revenue.specs.Revenue.{pounds_of}
use Rattle.revenue.proofs.pounds.Goals as goal

pub returns : goal.returns
unfolding pounds_of
returns c =
    let z = c.args.l.amount in
    let amount : to_z w64 (of_z w64 z) ≡ z = to_z-of_z (sfits z (omega (arith, c.requires.0))) in
    let converted : to_z w64 (of_z w64 c.scaled.result) ≡ scaled_of z c.args.rate 100000 = wire c.scaled.result c.scaled.type_inv ∙ rw amount at c.scaled.ensures in (
      rw (converted, ne_eqb _ _ c.if-l-eq-POUND.false) (scaled_is z c.args.rate 100000 (omega (arith, c.requires.0)) (omega (arith, c.requires.1)) (lit< tt)),
      rw converted (scaled_small z c.args.rate 100000 2000000000 (lit< tt) (mul-le-mul c.requires.0 c.requires.1)),
    )
