-- The lines of a year added up one after the other. No contract is stated by these definitions; theorems speak by them.
use Rattle.std.specs.Prelude.{Bool, cond, List, [], ◌∷◌, ℕ, eqb, ℤ, pos, ◌+ℤ◌}
use Rattle.year.specs.declared.Line.{Line}
use Rattle.revenue.specs.Revenue.{pounds_of, counted_by}

-- what a line's pounds count by its kind, in the sum of kind 2 where `cmr` holds, among the others where it does not
unfoldable pub counted_as : Bool → ℕ → ℤ → ℤ
counted_as cmr kind amount = cond (eqb kind 2) (cond cmr amount (pos 0)) (cond cmr (pos 0) (counted_by kind amount))

-- what a line counts
unfoldable pub counted_of : Bool → ℕ → Line → ℤ
counted_of cmr rate l = counted_as cmr l.kind (pounds_of rate l)

unfoldable pub summed_of : Bool → ℕ → List Line → ℤ
summed_of cmr rate [] = pos 0
summed_of cmr rate (l ∷ ls) = counted_of cmr rate l +ℤ summed_of cmr rate ls
