-- An answer is what it gives or a refusal: its number and what it gives determine which, and each list of rows is answered.
-- Assumes nothing.
use mathlib.Core.Path.{◌≡◌, refl, sym, ap, ◌∙◌}
use mathlib.Core.Bool.{Bool, true, false, cond}
use mathlib.Core.List.{[], ◌∷◌}
use Prim.Native.Nat.{ℕ}
use native.Mathlib.Nat.{not-suc-le-zero}
use native.Mathlib.Omega.{arith}
use borrow.Author.Tests.{eq-eqb, ne_eqb}
use Rattle.std.specs.Prelude.{Result, Ok, Err, ⊤}
use Rattle.refusals.specs.declared.Refusal.{Refusal}
use Rattle.refusals.specs.declared.RefusedAt.{RefusedAt}
use Rattle.refusals.specs.Refusals.{refusal_number, answer_number, given_or, why_alone, part_number, first_applicable, accepted, Rows}
use Rattle.refusals.specs.Answers.{One}
use Rattle.refusals.proofs.Laws.{same_refusal, never_zero, same_answer}

-- the first row that applies, as an answer that gives one thing where none does
abbrev first_of : {A : Type 0} → A → Rows → Result A Refusal
first_of x [] = Ok x
first_of x (row ∷ rows) = cond row.1 (Err row.0) (first_of x rows)

module _ {A : Type 0} (none x : A) where
  first_meets : (rows : Rows) → (answer_number (first_of x rows) ≡ first_applicable rows) × (given_or none (first_of x rows) ≡ cond (accepted rows) x none)
  first_meets [] = (refl, refl)
  first_meets (row ∷ rows) = by row.1 (first_meets rows)
    where
      refused : accepted ((row.0, true) ∷ rows) ≡ false
      refused = ne_eqb (refusal_number row.0) 0 (λ z. not-suc-le-zero {n = 0} (omega (arith, never_zero row.0)))

      by : (b : Bool) → (answer_number (first_of x rows) ≡ first_applicable rows) × (given_or none (first_of x rows) ≡ cond (accepted rows) x none)
          → (answer_number (cond b (Err row.0) (first_of x rows)) ≡ first_applicable ((row.0, b) ∷ rows))
          × (given_or none (cond b (Err row.0) (first_of x rows)) ≡ cond (accepted ((row.0, b) ∷ rows)) x none)
      by true h = (refl, sym (ap (λ (t : Bool). cond t x none) refused))
      by false h = h

-- an answer that gives nothing but its number
pub one_answer : (rows : Rows) → One (λ (a : Result ⊤ Refusal). answer_number a ≡ first_applicable rows)
one_answer rows =
    let h = (first_meets tt tt rows).0 in
    record { result = first_of tt rows; meets = h; alone = λ other k. same_answer other (first_of tt rows) (k ∙ sym h) }

module _ {A : Type 0} (none : A) where
  -- the number and what is given determine the answer
  pub same_case : (r s : Result A Refusal) → answer_number r ≡ answer_number s → given_or none r ≡ given_or none s → r ≡ s
  same_case (Ok x) (Ok y) n g = ap Ok g
  same_case (Ok x) (Err s) n g = absurd (not-suc-le-zero {n = 0} (omega (arith, never_zero s)))
  same_case (Err r) (Ok y) n g = absurd (not-suc-le-zero {n = 0} (omega (arith, never_zero r)))
  same_case (Err r) (Err s) n g = ap Err (same_refusal r s n)

  -- each list of rows is answered, and in one way
  pub one_case : (rows : Rows) (x : A) → One (λ (r : Result A Refusal). (answer_number r ≡ first_applicable rows) × (given_or none r ≡ cond (accepted rows) x none))
  one_case rows x =
      let h = first_meets none x rows in
      record {
        result = first_of x rows;
        meets = h;
        alone = λ other k. same_case other (first_of x rows) (k.0 ∙ sym h.0) (k.1 ∙ sym h.1);
      }

  -- what is given meets rows of which none applies, and a refusal those whose number it has
  pub found_meets : (rows : Rows) (x : A) → first_applicable rows ≡ 0 → (answer_number {A = A} (Ok x) ≡ first_applicable rows) × (given_or none (Ok x) ≡ cond (accepted rows) x none)
  found_meets rows x e = (sym e, sym (ap (λ (b : Bool). cond b x none) (eq-eqb (first_applicable rows) 0 e)))

  pub refused_meets : (rows : Rows) (x : A) (why : Refusal) → refusal_number why ≡ first_applicable rows → (answer_number {A = A} (Err why) ≡ first_applicable rows) × (given_or none (Err why) ≡ cond (accepted rows) x none)
  refused_meets rows x why e =
      let no : accepted rows ≡ false = ne_eqb (first_applicable rows) 0 (λ z. not-suc-le-zero {n = 0} (omega (arith, never_zero why))) in
      (e, sym (ap (λ (b : Bool). cond b x none) no))

-- ---- an answer with the part at which it is refused
module _ {A : Type 0} (none : A) where
  pub same_place : (r s : Result A RefusedAt) → answer_number (why_alone r) ≡ answer_number (why_alone s) → given_or none (why_alone r) ≡ given_or none (why_alone s)
      → part_number r ≡ part_number s → r ≡ s
  same_place (Ok x) (Ok y) n g p = ap Ok g
  same_place (Ok x) (Err s) n g p = absurd (not-suc-le-zero {n = 0} (omega (arith, never_zero s.why)))
  same_place (Err r) (Ok y) n g p = absurd (not-suc-le-zero {n = 0} (omega (arith, never_zero r.why)))
  same_place (Err r) (Err s) n g p =
      let w : r.why ≡ s.why = same_refusal r.why s.why n in
      λ i. Err (record { why = w i; at = p i })
