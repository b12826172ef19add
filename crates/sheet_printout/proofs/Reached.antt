-- How many of a row of numbers that never falls are at most x. Assumes nothing.
use mathlib.Core.Path.{◌≡◌, refl, ap, ◌∙◌}
use mathlib.Core.Logic.{⊎_elim}
use Prim.Native.Nat.{ℕ, zero, suc, ◌+◌, ◌-◌, ◌≤◌, ◌<◌}
use native.Mathlib.Omega.{arith}
use native.Mathlib.Nat.{add-zero, add-suc}
use native.Mathlib.Numerals.{one-add}
use borrow.Author.Tests.{le-leb, lt-leb}
use Rattle.lists.proofs.Tests.{le_or_lt}
use Rattle.sheet_printout.specs.Dates.{reached}

-- x lies at f n or past it, and before f (n + 1)
pub record Lies (f : ℕ → ℕ) (x most n : ℕ) : Type 0 where
  pub within : n ≤ most
  pub from : f n ≤ x
  pub before : x < f (suc n)

pub record Somewhere (f : ℕ → ℕ) (x most : ℕ) : Type 0 where
  pub place : ℕ
  pub lies : Lies f x most place

module _ (f : ℕ → ℕ) (rises : (k : ℕ) → f k ≤ f (suc k)) (x : ℕ) where
  pub climbs : (k j : ℕ) → f k ≤ f (k + j)
  climbs k zero = rw (add-zero k) (omega arith)
  climbs k (suc j) = rw (add-suc k j) (omega (arith, climbs k j, rises (k + j)))

  -- those up to a place that x has reached all count
  all_reached : (m j : ℕ) → f (m + j) ≤ x → reached f m x ≡ m
  unfolding reached
  all_reached zero j h = refl
  all_reached (suc m) j h =
      let e : suc m + j ≡ m + suc j = omega arith in
      let u : f (1 + m) ≤ x = omega (arith, climbs (suc m) j, ap f (one-add m)) in
      rw (le-leb (f (1 + m)) x u) (omega (arith, all_reached m (suc j) (omega (arith, ap f e))))

  -- those past it do not
  none_past : (n : ℕ) → x < f (suc n) → (j : ℕ) → reached f (n + j) x ≡ reached f n x
  unfolding reached
  none_past n h zero = rw (add-zero n) refl
  none_past n h (suc j) =
      let e : suc n + j ≡ 1 + (n + j) = omega arith in
      let u : x < f (1 + (n + j)) = omega (arith, climbs (suc n) j, ap f e) in
      rw (add-suc n j, lt-leb (f (1 + (n + j))) x u) (omega (arith, none_past n h j))

  -- so the number of those reached is the place
  pub counted : (most n : ℕ) → Lies f x most n → reached f most x ≡ n
  counted most n l =
      let e : most ≡ n + (most - n) = omega arith in
      ap (λ (m : ℕ). reached f m x) e ∙ none_past n l.before (most - n) ∙ all_reached n 0 (omega (arith, l.from, ap f (add-zero n)))

  somewhere : (most : ℕ) → f 0 ≤ x → x < f (suc most) → Somewhere f x most
  somewhere zero h k = record { place = 0; lies = record { within = omega arith; from = h; before = k } }
  somewhere (suc most) h k =
      ⊎_elim
      (λ (l : f (suc most) ≤ x). record { place = suc most; lies = record { within = omega arith; from = l; before = k } })
      (λ (l : x < f (suc most)). let s = somewhere most h l in
      record { place = s.place; lies = record { within = omega arith; from = s.lies.from; before = s.lies.before } })
      (le_or_lt (f (suc most)) x)

  -- x lies at the place that the number of those reached names
  pub at_reached : (most : ℕ) → f 0 ≤ x → x < f (suc most) → Lies f x most (reached f most x)
  at_reached most h k = let s = somewhere most h k in rw (counted most s.place s.lies) s.lies
