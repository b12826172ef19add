-- An answer that names the part at which it is refused: each list of rows has one, and only one. Assumes nothing.
use mathlib.Core.Path.{◌≡◌, refl, sym, ap, ◌∙◌}
use mathlib.Core.Bool.{Bool, true, false, cond}
use Prim.Native.Nat.{ℕ}
use native.Mathlib.Omega.{arith}
use borrow.Author.Tests.{eq-eqb}
use Rattle.std.specs.Prelude.{Result, Ok, Err}
use Rattle.refusals.specs.declared.Refusal.{Refusal}
use Rattle.refusals.specs.declared.RefusedAt.{RefusedAt}
use Rattle.refusals.specs.Refusals.{Rows, answer_number, given_or, why_alone, part_number, refusal_number, first_applicable, accepted}
use Rattle.refusals.specs.Answers.{One}
use Rattle.refusals.proofs.Laws.{never_zero}
use Rattle.refusals.proofs.Cases.{one_case, same_place}

module _ {A : Type 0} (none : A) (rows : Rows) (given : A) (part : ℕ) where
  abbrev Gives : Result A RefusedAt → Type 0
  Gives r = (answer_number (why_alone r) ≡ first_applicable rows) × (part_number r ≡ part) × (given_or none (why_alone r) ≡ given)

  -- no part beside what is given, and nothing given beside a part
  pub one_part : (first_applicable rows ≡ 0 → part ≡ 0) → ((first_applicable rows ≡ 0 → ⊥) → given ≡ none) → One Gives
  one_part no_part no_thing = let o = one_case none rows given in by o.result o.meets.0 o.meets.1
    where
      one : (r : Result A RefusedAt) → Gives r → One Gives
      one r h = record { result = r; meets = h; alone = λ other k. same_place none other r (k.0 ∙ sym h.0) (k.2 ∙ sym h.2) (k.1 ∙ sym h.1) }

      by : (r : Result A Refusal) → answer_number r ≡ first_applicable rows → given_or none r ≡ cond (accepted rows) given none → One Gives
      by (Ok x) n g = one (Ok x) (n, sym (no_part (sym n)), g ∙ ap (λ (b : Bool). cond b given none) (eq-eqb (first_applicable rows) 0 (sym n)))
      by (Err why) n g = one (Err (record { why = why; at = part })) (n, refl, sym (no_thing (λ z. absurd (omega (arith, never_zero why)))))
