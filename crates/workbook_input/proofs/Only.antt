-- The input of `workbook` is answered and no second answer fits. Assumes nothing.
use mathlib.Core.Path.{◌≡◌, refl, sym, ap, ◌∙◌}
use mathlib.Core.List.{List}
use Rattle.std.specs.Prelude.{Option, Some, None, Result, Ok, Err, ⊤}
use Prim.Native.Nat.{ℕ, ◌≤◌}
use lib.ListN.{length}
use Rattle.refusals.specs.declared.Refusal.{Refusal}
use Rattle.refusals.specs.declared.Refusal.TheVariants.{Malformed}
use Rattle.refusals.specs.Refusals.{refusal_number, answer_number}
use Rattle.refusals.specs.Answers.{One}
use Rattle.refusals.proofs.Laws.{which_of}
use Rattle.refusals.proofs.Cases.{one_answer, same_case}
use Rattle.entries.specs.Row.{zero_entry}
use Rattle.outage.specs.Log.{last_regime_end}
use Rattle.outage.specs.Calls.{empty_log, enter_rows, enter_log}
use Rattle.plan.specs.Calls.{why_in}
use Rattle.plan.proofs.OneByOne.{which_fails}
use Rattle.year.specs.declared.Year.{Year}
use Rattle.levels.specs.Book.{published_book}
use Rattle.assessment.specs.Period.{period_rows}
use Rattle.workbook_input.specs.declared.WorkbookInput.{WorkbookInput}
use Rattle.workbook_input.specs.Input.{input_years}
use Rattle.workbook_input.specs.Calls.{outages_in, entering, running_log, or_else, years_number, number_of, input_number, input_given, no_input, ReadWorkbookGives}
use Rattle.workbook_input.proofs.Answers.{refused_first, gives_refused}
use Rattle.workbook_input.proofs.Said.{years_most}

pub only_read_workbook : (bs : List ℕ) (r s : Result WorkbookInput Refusal) → ReadWorkbookGives bs r → ReadWorkbookGives bs s → r ≡ s
only_read_workbook bs r s p q = same_case no_input r s (p.0 ∙ sym q.0) (p.1 ∙ sym q.1)

-- ---- the number is that of an answer
pub record Answered (n : ℕ) : Type 0 where
  pub answer : Result ⊤ Refusal
  pub is : answer_number answer ≡ n

pub answered_or : {m n : ℕ} → Answered m → Answered n → Answered (or_else m n)
answered_or {m} {n} a b = by a.answer a.is
  where
    by : (first : Result ⊤ Refusal) → answer_number first ≡ m → Answered (or_else m n)
    by (Ok x) e = record { answer = b.answer; is = b.is ∙ ap (λ (k : ℕ). or_else k n) e }
    by (Err why) e = record { answer = Err why; is = sym (refused_first why n) ∙ ap (λ (k : ℕ). or_else k n) e }

years_answered : (years : List Year) → Answered (years_number years)
years_answered years =
    let why = why_in (entering years) in
    let a = one_answer (which_of why (enter_rows (empty_log last_regime_end) zero_entry)) in
    let b = one_answer (period_rows published_book years (running_log years)) in
    let w = which_fails enter_rows enter_log (enter_rows (empty_log last_regime_end) zero_entry) (λ n s e. refl) 1 (empty_log last_regime_end) (outages_in years) in
    answered_or (record { answer = a.result; is = a.meets ∙ w }) (record { answer = b.result; is = b.meets })

pub answered : (bs : List ℕ) → Answered (input_number bs)
answered bs = by (input_years bs)
  where
    by : (o : Option (List Year)) → Answered (number_of o)
    by None = record { answer = Err Malformed; is = refl }
    by (Some years) = years_answered years

pub one_read_workbook : (bs : List ℕ) → One (ReadWorkbookGives bs)
one_read_workbook bs = let a = answered bs in by a.answer a.is
  where
    made : (r : Result WorkbookInput Refusal) → ReadWorkbookGives bs r → One (ReadWorkbookGives bs)
    made r m = record { result = r; meets = m; alone = λ other h. only_read_workbook bs other r h m }

    by : (a : Result ⊤ Refusal) → answer_number a ≡ input_number bs → One (ReadWorkbookGives bs)
    by (Ok x) e = made (Ok (input_given bs)) (e, refl)
    by (Err why) e = made (Err why) (gives_refused bs why e)

-- rule 20.4: no input that is not 13 has more than 40,978 bytes
pub input_most : (bs : List ℕ) → (input_number bs ≡ refusal_number Malformed → ⊥) → length bs ≤ 40978
input_most bs n = by (input_years bs) refl
  where
    by : (o : Option (List Year)) → input_years bs ≡ o → length bs ≤ 40978
    by None e = absurd (n (ap number_of e))
    by (Some years) e = years_most bs years e
