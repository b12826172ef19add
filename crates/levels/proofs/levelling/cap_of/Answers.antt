-- What a book in range says of the cap's amounts and of their sum.
use Rattle.std.proofs.Common.{◌≡◌}
use Rattle.money.proofs.Pounds.{wire}
use Rattle.year.proofs.Says.{year_says, pppi_most}
use Rattle.levels.specs.Book.{cap_sum}
use Rattle.levels.proofs.Says.{book_says}
use Rattle.levels.proofs.Ranges.{wire_small}
use Rattle.levels.proofs.levelling.cap_of.Goals as goal

pub sum_of-sum-requires : goal.sum_of-sum-requires
sum_of-sum-requires c =
    let b = c.args.book in
    let h = (book_says b c.requires.0).cap in
    rw (wire_small b.pcl h.level, wire_small b.pcac h.built, wire_small b.orac h.run) (h.level, h.built, h.run)

pub level-requires : goal.level-requires
level-requires c =
    let b = c.args.book in
    let y = year_says c.args.y.now c.requires.1 in
    let h = (book_says b c.requires.0).cap in
    let sum : c.sum_of-sum.result ≡ cap_sum b = rw (wire_small b.pcl h.level, wire_small b.pcac h.built, wire_small b.orac h.run) at c.sum_of-sum.ensures in
    rw (wire c.sum_of-sum.result c.sum_of-sum.type_inv, sum) (y.pyc, h.all, y.aic, pppi_most c.args.y.now.pppi y.pppi)
