-- What a book in range says of the floor's amounts and of their sum, and that the incentive is at most one.
use Rattle.std.proofs.Common.{◌≡◌, arith}
use Rattle.money.proofs.Pounds.{wire}
use Rattle.year.proofs.Says.{year_says, pppi_most}
use Rattle.levels.specs.Book.{floor_sum}
use Rattle.levels.proofs.Says.{book_says}
use Rattle.levels.proofs.Ranges.{wire_small, aif_most}
use Rattle.levels.proofs.levelling.floor_of.Goals as goal

pub sum_of-sum-requires : goal.sum_of-sum-requires
sum_of-sum-requires c =
    let b = c.args.book in
    let h = (book_says b c.requires.0).floor in
    rw (wire_small b.pfl h.level, wire_small b.pcaf h.built, wire_small b.oraf h.run) (h.level, h.built, h.run)

pub level-requires : goal.level-requires
level-requires c =
    let b = c.args.book in
    let says = book_says b c.requires.0 in
    let y = year_says c.args.y.now c.requires.1 in
    let h = says.floor in
    let sum : c.sum_of-sum.result ≡ floor_sum b = rw (wire_small b.pfl h.level, wire_small b.pcaf h.built, wire_small b.oraf h.run) at c.sum_of-sum.ensures in
    rw (wire c.sum_of-sum.result c.sum_of-sum.type_inv, sum)
    (y.pyf, h.all, omega (arith, c.aif-incentive.ensures, aif_most c.args.met c.args.y.now.exceptional b.miss_factor says.factor), pppi_most c.args.y.now.pppi y.pppi)
