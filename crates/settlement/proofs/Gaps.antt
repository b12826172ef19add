-- The gap in hundredths of a year: what the rounded quotient is. Assumes nothing.
use mathlib.Core.Path.{◌≡◌, refl}
use mathlib.Core.Bool.{true, false}
use Prim.Native.Nat.{ℕ, ◌+◌, ◌-◌, ◌*◌, ◌/◌, ◌≤◌, ◌<◌}
use native.Mathlib.Omega.{arith}
use lib.Dec.{leb-zero}
use lib.IntN.{ℤ, pos, negsuc, nat_abs, ◌-ℤ◌, ◌*ℤ◌}
use borrow.Author.Tests.{le-leb, lt-leb}
use Rattle.money.proofs.Parts.{over, under, diff, abs, within_half, times_over, times_under}
use Rattle.money.proofs.Nearest.{round_near, round_to}
use Rattle.settlement.specs.Gap.{hundredths, good_hundredths}

-- ---- the gap is the quotient that the code works out
module _ (earlier later : ℕ) where
  abbrev past : ℤ
  past = (pos later -ℤ pos earlier) *ℤ pos 200

  -- a whole number of hundredths, times 1,461, less what is divided
  apart : ℤ → ℤ
  apart z = z *ℤ pos 1461 -ℤ past

  parts : (n : ℕ) → over (apart (pos n)) + later * 200 ≡ under (apart (pos n)) + (n * 1461 + earlier * 200)
  unfolding over under apart
  parts n =
      let g = pos later -ℤ pos earlier in
      omega (arith, diff (pos (n * 1461)) past, diff (pos later) (pos earlier), times_over g 200, times_under g 200)

  -- a gap that is not refused at once is the quotient
  pub gap_is : 400 * earlier ≤ 400 * later + 1461 → hundredths earlier later ≡ pos ((400 * later + 1461 - 400 * earlier) / 2922)
  unfolding hundredths apart
  gap_is h =
      let q : ℕ = (400 * later + 1461 - 400 * earlier) / 2922 in
      let by = parts q in
      round_to past (pos q) 1461 (omega (arith, within_half (apart (pos q)) 1460 (omega arith) (omega arith)))

  early : (z : ℤ) → 400 * later + 1461 < 400 * earlier → 2 * nat_abs (apart z) ≤ 1461 → good_hundredths z ≡ false
  early (pos n) h near = absurd (omega (arith, abs (apart (pos n)), parts n))
  early (negsuc n) h near = refl

  -- one that is refused at once is not allowed
  pub gap_early : 400 * later + 1461 < 400 * earlier → good_hundredths (hundredths earlier later) ≡ false
  unfolding hundredths apart
  gap_early h = early (hundredths earlier later) h (round_near past 1461 (omega arith))

-- ---- what is allowed
pub allowed : (n : ℕ) → n ≤ 499 → good_hundredths (pos n) ≡ true
allowed n h = simp (leb-zero n, le-leb n 499 h)

pub too_long : (n : ℕ) → 499 < n → good_hundredths (pos n) ≡ false
too_long n h = simp (leb-zero n, lt-leb n 499 h)
