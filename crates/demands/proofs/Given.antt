-- Nothing is given beside a refusal, and no part is named beside what is given. Assumes nothing.
use mathlib.Core.Path.{◌≡◌, refl}
use Prim.Native.Nat.{ℕ}
use native.Mathlib.Nat.{not-suc-le-zero}
use native.Mathlib.Omega.{arith}
use Rattle.std.specs.Prelude.{Result, Ok, Err}
use Rattle.refusals.specs.declared.Refusal.{Refusal}
use Rattle.refusals.specs.declared.RefusedAt.{RefusedAt}
use Rattle.refusals.specs.Refusals.{answer_number, given_or, why_alone, part_number}
use Rattle.refusals.proofs.Laws.{never_zero}

module _ {A : Type 0} where
  pub none_given : (none : A) (r : Result A Refusal) → (answer_number r ≡ 0 → ⊥) → given_or none r ≡ none
  none_given none (Ok x) n = absurd (n refl)
  none_given none (Err why) n = refl

  pub no_part : (r : Result A RefusedAt) → answer_number (why_alone r) ≡ 0 → part_number r ≡ 0
  no_part (Ok x) n = refl
  no_part (Err refused) n = absurd (not-suc-le-zero {n = 0} (omega (arith, never_zero refused.why)))

  -- what is given, where the number is 0
  pub is_given : (none : A) (r : Result A Refusal) → answer_number r ≡ 0 → r ≡ Ok (given_or none r)
  is_given none (Ok x) n = refl
  is_given none (Err why) n = absurd (not-suc-le-zero {n = 0} (omega (arith, never_zero why)))

  pub is_given_whole : (none : A) (r : Result A RefusedAt) → answer_number (why_alone r) ≡ 0 → r ≡ Ok (given_or none (why_alone r))
  is_given_whole none (Ok x) n = refl
  is_given_whole none (Err refused) n = absurd (not-suc-le-zero {n = 0} (omega (arith, never_zero refused.why)))
