-- `settlement::table::entry` answers what the rule gives: antt computes the rule at each of the 500 entries.
use Rattle.std.proofs.Common.{◌≡◌, ℕ, ◌+◌, ◌<◌, Bool, true, false, not, ◌&&◌, leb, List, length, get_or, refl, rules, sym, subst}
use lib.Dec.{T}
use borrow.Author.Tests.{leb-true}
use Rattle.lists.proofs.Tables.{at, every}
use Rattle.lists.proofs.Tests.{and_left, and_right, not_yes}
use Rattle.settlement.specs.Growth.{grows_to, growth_of}
use Rattle.settlement.proofs.Growing.{growth_is, growth_small}
use Rattle.settlement.proofs.table.entry.Goals as goal

-- e is entry n: it passes, and the next number does not
right : ℕ → ℕ → Bool
right n e = grows_to n e && (not (grows_to n (e + 1)) && leb e 2000000000)

passed : (b : Bool) → T b → b ≡ true
passed true t = refl
passed false t = absurd t

says : (n e : ℕ) → T (right n e) → e ≡ growth_of n
unfolding right
says n e t =
    let all = passed (right n e) t in
    let rest = and_right (grows_to n e) (not (grows_to n (e + 1)) && leb e 2000000000) all in
    sym
    (growth_is n e (leb-true e 2000000000 (and_right (not (grows_to n (e + 1))) (leb e 2000000000) rest))
    (and_left (grows_to n e) (not (grows_to n (e + 1)) && leb e 2000000000) all)
    (not_yes (grows_to n (e + 1)) (and_left (not (grows_to n (e + 1))) (leb e 2000000000) rest)))

-- each entry of a table that passes is what the rule gives
given : (xs : List ℕ) (n : ℕ) → T (every right 0 xs) → n < length xs → get_or xs n 0 ≡ growth_of n
given xs n t h = says n (get_or xs n 0) (at right xs t n h)

-- and below 1.3 x 10^9
small : (n e : ℕ) → e ≡ growth_of n → n < 500 → e < 1300000000
small n e k h = subst (λ (x : ℕ). x < 1300000000) (sym k) (growth_small n h)

pub returns : goal.returns
unfolding right grows_to
returns c =
    search (rules, given, small)
