-- A book is in range where its numbers and both of its sums are.
use Rattle.std.proofs.Common.{rules, true, false, Bool, ◌&&◌, ◌≡◌, ◌∙◌, sym}
use Rattle.levels.specs.Book.{good_book, good_numbers, good_sum}
use Rattle.levels.proofs.measuring.good_book.Goals as goal
use Rattle.levels.proofs.measuring.good_book.Goals.{then-good_numbers, else-good_numbers}

last_of : (a b c : Bool) {r : Bool} → a ≡ true → b ≡ true → r ≡ c → r ≡ (a && (b && c))
last_of a b c f g e = rw (f, g) e

second_of : (a b c : Bool) {r : Bool} → a ≡ true → b ≡ false → r ≡ false → r ≡ (a && (b && c))
second_of a b c f g e = rw (f, g) e

first_of : (a b : Bool) {r : Bool} → a ≡ false → r ≡ false → r ≡ (a && b)
first_of a b f e = rw f e

pub returns-then-good_sum : goal.returns-then-good_sum
unfolding good_book
returns-then-good_sum c =
    let b = c.args.b in
    let cap = good_sum b.pcl b.pcac b.orac in
    let floor : c.good_sum-then-good_sum.result ≡ good_sum b.pfl b.pcaf b.oraf = search rules in
    elim c.if-good_numbers.branch [
      | then-good_numbers w ↦
          let first : w.good_sum.result ≡ cap = search rules in
          last_of (good_numbers b) cap (good_sum b.pfl b.pcaf b.oraf) (sym c.good_numbers.ensures ∙ w.if-good_numbers.true) (sym first ∙ sym w.value-is ∙ c.if-good_sum.true) floor
      | else-good_numbers w ↦ cc
    ]

pub returns-else-good_sum : goal.returns-else-good_sum
unfolding good_book
returns-else-good_sum c =
    let b = c.args.b in
    let cap = good_sum b.pcl b.pcac b.orac in
    elim c.if-good_numbers.branch [
      | then-good_numbers w ↦
          let first : w.good_sum.result ≡ cap = search rules in
          second_of (good_numbers b) cap (good_sum b.pfl b.pcaf b.oraf) (sym c.good_numbers.ensures ∙ w.if-good_numbers.true) (sym first ∙ sym w.value-is ∙ c.if-good_sum.false) c.if-good_sum.false
      | else-good_numbers w ↦
          first_of (good_numbers b) (cap && good_sum b.pfl b.pcaf b.oraf) (sym c.good_numbers.ensures ∙ w.if-good_numbers.false) c.if-good_sum.false
    ]
