-- `money::rounding::scaled`: out of reach it answers 0, and in reach the product is divided and rounded.
use Rattle.std.proofs.Common.{◌≡◌, ℕ, ◌*◌, ◌/◌, ◌%◌, ◌^◌, ◌≤◌, ◌<◌, Bool, true, false, leb, ap, sym, ◌∙◌, arith}
use native.Mathlib.Nat.{div-add-mod', mod-lt, mul-le-mul}
use lib.IntN.{ℤ, pos, neg_ℤ, nat_abs}
use lib.Signed.{lt_z}
use borrow.Author.Tests.{leb-true, leb-false}
use mir.Facts.{to_z-of_z}
use mir.Syntax.{w64}
use mir.Val.{SFits, to_z, of_z}
use Rattle.money.specs.Pounds.{saturated}
use Rattle.money.specs.Rounding.{rounded_of, round_div, on_magnitude, scaled_of}
use Rattle.money.proofs.Pounds.{wire}
use Rattle.money.proofs.Nearest.{round_le_self, round_times, debit_on, credit_on, rounded_is, scaled_is, scaled_far, scaled_wide, scaled_over_none}
use Rattle.money.proofs.rounding.scaled.Goals.{then-not-within-via-then-not-within, then-not-within-via-else-not-within+then-by-gt900000000, then-not-within-via-else-not-within+else-by-gt900000000+then-over-eq0}
use Rattle.money.proofs.rounding.scaled.Goals as goal

-- in reach: m is what the product k times the factor, by its quotient and rest, rounds to
record InReach (z : ℤ) (by over k m : ℕ) : Type 0 where
  near : nat_abs z ≤ 10000000000
  narrow : by ≤ 900000000
  some : 0 < over
  small : over ≤ 1000000000000
  same : k ≡ nat_abs z
  is : m ≡ rounded_of (k * by / over) (k * by % over) over

product_small : (z : ℤ) (by over k m : ℕ) → InReach z by over k m → nat_abs z * by ≤ 9000000000000000000
product_small z by over k m r = mul-le-mul r.near r.narrow

fits : (z : ℤ) (by over k m : ℕ) → InReach z by over k m → round_div (nat_abs z * by) over < 2 ^ 63
fits z by over k m r = omega (arith, product_small z by over k m r, round_le_self (nat_abs z * by) over r.some)

figure : (z : ℤ) (by over k m : ℕ) → InReach z by over k m → m ≡ round_div (nat_abs z * by) over
figure z by over k m r =
    let n : ℕ = nat_abs z * by in
    let by_product : rounded_of (k * by / over) (k * by % over) over ≡ rounded_of (n / over) (n % over) over = ap (λ (j : ℕ). rounded_of (j * by / over) (j * by % over) over) r.same in
    r.is ∙ by_product ∙
    rounded_is n (n / over) (n % over) over (sym (div-add-mod' n over)) (mod-lt n r.some) r.small
    (omega (arith, fits z by over k m r))

given : (z : ℤ) (by over k m : ℕ) → InReach z by over k m → on_magnitude (λ (j : ℕ). round_div (j * by) over) z ≡ scaled_of z by over
given z by over k m r =
    sym (round_times z by over r.some) ∙ sym (scaled_is z by over r.near r.narrow r.some)

to_the_bad : (z : ℤ) (by over k m : ℕ) → InReach z by over k m → lt_z z (pos 0) ≡ true → saturated (neg_ℤ (pos m)) ≡ scaled_of z by over
to_the_bad z by over k m r e =
    ap (λ (j : ℕ). saturated (neg_ℤ (pos j))) (figure z by over k m r) ∙
    debit_on (λ (j : ℕ). round_div (j * by) over) z (fits z by over k m r) e ∙
    given z by over k m r

to_the_good : (z : ℤ) (by over k m : ℕ) → InReach z by over k m → lt_z z (pos 0) ≡ false → saturated (pos m) ≡ scaled_of z by over
to_the_good z by over k m r e =
    ap (λ (j : ℕ). saturated (pos j)) (figure z by over k m r) ∙
    credit_on (λ (j : ℕ). round_div (j * by) over) z (fits z by over k m r) e ∙
    given z by over k m r

pub returns-then-not-within : goal.returns-then-not-within
returns-then-not-within c =
    let far : leb (nat_abs c.args.z) 10000000000 ≡ c.within.result = sym (rw (to_z-of_z c.ranges.z) at c.within.ensures) in
    sym
    (elim c.then-not-within.branch [
      | then-not-within-via-then-not-within w ↦ scaled_far c.args.z c.args.by c.args.over (leb-false _ _ (far ∙ w.if-not-within.true))
      | then-not-within-via-else-not-within+then-by-gt900000000 w ↦ scaled_wide c.args.z c.args.by c.args.over w.if-by-gt900000000.true
      | then-not-within-via-else-not-within+else-by-gt900000000+then-over-eq0 w ↦ rw w.if-over-eq0.true (scaled_over_none c.args.z c.args.by)
    ])

in_reach : (z : ℤ) (by over k m : ℕ) (near : Bool) → SFits w64 z → near ≡ leb (nat_abs (to_z w64 (of_z w64 z))) 10000000000 → near ≡ true → by ≤ 900000000 → 0 < over → over < 2 ^ 32 → k ≡ nat_abs (to_z w64 (of_z w64 z)) → m ≡ rounded_of (k * by / over) (k * by % over) over → InReach z by over k m
in_reach z by over k m near f test e narrow some small same is =
    record {
      near = leb-true _ _ (sym (rw (to_z-of_z f) at test) ∙ e);
      narrow = narrow;
      some = some;
      small = omega arith;
      same = rw (to_z-of_z f) at same;
      is = is;
    }

pub returns-then-is_negative : goal.returns-then-is_negative
returns-then-is_negative c =
    let reach = in_reach c.args.z c.args.by c.args.over c.magnitude.result c.rounded-m.result c.within.result c.ranges.z c.within.ensures c.if-not-within.false c.if-by-gt900000000.false (omega arith) c.ranges.over.fits c.magnitude.ensures (simp (c.from.ensures, c.from-d.ensures) at c.rounded-m.ensures) in
    let sign : c.is_negative.result ≡ lt_z c.args.z (pos 0) = c.is_negative.ensures ∙ ap (λ (v : ℤ). lt_z v (pos 0)) (to_z-of_z c.ranges.z) in
    wire c.debit.result c.debit.type_inv ∙ c.debit.ensures ∙
    to_the_bad c.args.z c.args.by c.args.over c.magnitude.result c.rounded-m.result reach (sym sign ∙ c.if-is_negative.true)

pub returns-else-is_negative : goal.returns-else-is_negative
returns-else-is_negative c =
    let reach = in_reach c.args.z c.args.by c.args.over c.magnitude.result c.rounded-m.result c.within.result c.ranges.z c.within.ensures c.if-not-within.false c.if-by-gt900000000.false (omega arith) c.ranges.over.fits c.magnitude.ensures (simp (c.from.ensures, c.from-d.ensures) at c.rounded-m.ensures) in
    let sign : c.is_negative.result ≡ lt_z c.args.z (pos 0) = c.is_negative.ensures ∙ ap (λ (v : ℤ). lt_z v (pos 0)) (to_z-of_z c.ranges.z) in
    wire c.credit.result c.credit.type_inv ∙ c.credit.ensures ∙
    to_the_good c.args.z c.args.by c.args.over c.magnitude.result c.rounded-m.result reach (sym sign ∙ c.if-is_negative.false)
