-- A writing is answered by a length or a refusal, with a buffer: no second answer fits, nor a second buffer. Assumes nothing.
use mathlib.Core.Path.{◌≡◌, refl, sym, ◌∙◌}
use mathlib.Core.Bool.{cond}
use mathlib.Core.List.{List}
use Prim.Native.Nat.{ℕ}
use Rattle.std.specs.Prelude.{Result}
use Rattle.refusals.specs.declared.Refusal.{Refusal}
use Rattle.refusals.specs.Refusals.{Rows, first_applicable, accepted, answer_number, given_or}
use Rattle.refusals.specs.Answers.{One}
use Rattle.refusals.proofs.Cases.{same_case, one_case}

-- an answer and a buffer
abbrev pub Laid : Rows → ℕ → List ℕ → Result ℕ Refusal → List ℕ → Type 0
Laid rows n buffer r o = (answer_number r ≡ first_applicable rows) × (given_or 0 r ≡ cond (accepted rows) n 0) × (o ≡ buffer)

module _ (rows : Rows) (n : ℕ) (buffer : List ℕ) where
  pub only_laid : (r s : Result ℕ Refusal) (o p : List ℕ) → Laid rows n buffer r o → Laid rows n buffer s p → (r ≡ s) × (o ≡ p)
  only_laid r s o p a b = (same_case 0 r s (a.0 ∙ sym b.0) (a.1 ∙ sym b.1), a.2 ∙ sym b.2)

  pub one_laid : One (λ (p : Result ℕ Refusal × List ℕ). Laid rows n buffer p.0 p.1)
  one_laid =
      let a = one_case 0 rows n in
      record {
        result = (a.result, buffer);
        meets = (a.meets.0, a.meets.1, refl);
        alone = λ other h.
            let e = only_laid other.0 a.result other.1 buffer h (a.meets.0, a.meets.1, refl) in
            λ i. (e.0 i, e.1 i);
      }
