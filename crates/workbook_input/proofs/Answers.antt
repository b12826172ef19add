-- What reading the input answers, a law for each return. Assumes nothing.
use mathlib.Core.Path.{◌≡◌, refl, sym, ap, ◌∙◌}
use mathlib.Core.Bool.{Bool, false, cond}
use mathlib.Core.List.{List, ◌++◌}
use Rattle.std.specs.Prelude.{Option, Some, None, Ok, Err}
use Prim.Native.Nat.{ℕ, suc, ◌-◌, ◌≤◌, ◌<◌}
use native.Mathlib.Nat.{not-suc-le-zero}
use native.Mathlib.Omega.{arith}
use borrow.Author.Tests.{eq-eqb, ne_eqb}
use lib.Dec.{eqb}
use lib.IntN.{ℤ}
use lib.ListN.{length, drop, length-drop}
use Rattle.refusals.specs.declared.Refusal.{Refusal}
use Rattle.refusals.specs.Refusals.{refusal_number, first_applicable}
use Rattle.refusals.proofs.Laws.{never_zero}
use Rattle.outage.specs.declared.Log.{Log}
use Rattle.outage.specs.Log.{last_regime_end}
use Rattle.outage.specs.Calls.{empty_log}
use Rattle.plan.specs.Calls.{through, why_in, stands_in}
use Rattle.year.specs.declared.Year.{Year}
use Rattle.levels.specs.Book.{published_book}
use Rattle.balances.specs.declared.assessing.Figures.{Figures}
use Rattle.assessment.specs.Period.{period_rows, period_given}
use Rattle.codec.specs.Theorems.{Bytes}
use Rattle.codec.specs.Leaves.{number_at}
use Rattle.codec.proofs.Leaves.{number_there}
use Rattle.codec.proofs.Numbers.{spelled_small}
use Rattle.codec.proofs.Values.{bytes_drop}
use Rattle.workbook_input.specs.declared.WorkbookInput.{WorkbookInput}
use Rattle.workbook_input.specs.Input.{first_day, last_day, input_years}
use Rattle.workbook_input.specs.Calls.{entering, running_log, or_else, years_number, number_of, input_number, yearly_amounts, period_amounts, amounts_in, no_amounts, amounts_of, input_amounts, day_given, ReadWorkbookGives}
use Rattle.workbook_input.proofs.Said.{said}

-- a refusal comes before what follows
pub refused_first : (why : Refusal) (later : ℕ) → or_else (refusal_number why) later ≡ refusal_number why
refused_first why later =
    let m : refusal_number why ≡ suc (refusal_number why - 1) = omega (arith, never_zero why) in
    ap (λ (n : ℕ). or_else n later) m ∙ sym m

given_same : {a b : List ℤ} {k l m n : ℕ} → a ≡ b → k ≡ l → m ≡ n → ◌≡◌ {A = WorkbookInput} (record { amounts = a; first = k; last = m }) (record { amounts = b; first = l; last = n })
given_same e f g = cc

module _ (s : List ℕ) where
  -- ---- a refusal's number says that nothing is given
  pub gives_refused : (why : Refusal) → refusal_number why ≡ input_number s → ReadWorkbookGives s (Err why)
  gives_refused why n =
      let not : (m : ℕ) → refusal_number why ≡ m → eqb m 0 ≡ false = λ m f. ne_eqb m 0 (λ z. not-suc-le-zero {n = 0} (omega (arith, never_zero why))) in
      let no_day : (day : ℕ) → 0 ≡ day_given s day = λ day. sym (ap (λ (b : Bool). cond b day 0) (not (input_number s) n)) in
      (n, given_same (none_given not (input_years s) n) (no_day (first_day s)) (no_day (last_day s)))
    where
      none_given : ((m : ℕ) → refusal_number why ≡ m → eqb m 0 ≡ false) → (o : Option (List Year)) → refusal_number why ≡ number_of o → no_amounts ≡ amounts_of o
      none_given not None f = refl
      none_given not (Some years) f = sym (ap (λ (b : Bool). cond b (amounts_in years) no_amounts) (not (years_number years) f))

  module _ (years : List Year) (e : Some years ≡ input_years s) where
    module _ (log : Log) (d : entering years ≡ through log) where
      log_is : running_log years ≡ log
      log_is = ap (stands_in (empty_log last_regime_end)) d

      number_is : first_applicable (period_rows published_book years log) ≡ input_number s
      number_is =
          sym (ap (λ (n : ℕ). or_else n (first_applicable (period_rows published_book years (running_log years)))) (ap why_in d)
          ∙ ap (λ (l : Log). first_applicable (period_rows published_book years l)) log_is)
          ∙ ap number_of e

      -- the assessment is not refused
      module _ (figures : Figures) (z : 0 ≡ first_applicable (period_rows published_book years log)) (f : figures ≡ period_given published_book years log) where
        zero_number : input_number s ≡ 0
        zero_number = sym (z ∙ number_is)

        amounts_are : yearly_amounts log years ++ period_amounts figures ≡ input_amounts s
        amounts_are =
            ap (λ (x : Figures). yearly_amounts log years ++ period_amounts x) f
            ∙ ap (λ (l : Log). yearly_amounts l years ++ period_amounts (period_given published_book years l)) (sym log_is)
            ∙ ap (λ (b : Bool). cond b (amounts_in years) no_amounts) (sym (eq-eqb (years_number years) 0 (ap number_of e ∙ zero_number)))
            ∙ ap amounts_of e

        day_given_law : (day : ℕ) → day ≡ day_given s day
        day_given_law day = ap (λ (b : Bool). cond b day 0) (sym (eq-eqb (input_number s) 0 zero_number))

        pub gives_amounts : (amounts : List ℤ) (first last : ℕ) → amounts ≡ yearly_amounts log years ++ period_amounts figures → first ≡ number_at 4 s → last ≡ number_at 4 (drop 4 s)
            → ReadWorkbookGives s (Ok (record { amounts = amounts; first = first; last = last }))
        gives_amounts amounts first last h i j =
            let room = (said s years (sym e)).days in
            let one : first ≡ first_day s = i ∙ number_there 4 s (omega arith) (omega arith) in
            let two : last ≡ last_day s = j ∙ number_there 4 (drop 4 s) (omega arith) (omega (arith, length-drop 4 s)) in
            (sym zero_number, given_same (h ∙ amounts_are) (one ∙ day_given_law (first_day s)) (two ∙ day_given_law (last_day s)))

  -- ---- a day fits 32 bits
  module _ (b : Bytes s) (years : List Year) (e : Some years ≡ input_years s) where
    pub first_small : (n : ℕ) → n ≡ number_at 4 s → n < 4294967296
    first_small n i =
        let room = (said s years (sym e)).days in
        omega (arith, i ∙ number_there 4 s (omega arith) (omega arith), spelled_small 4 s b (omega arith))

    pub last_small : (n : ℕ) → n ≡ number_at 4 (drop 4 s) → n < 4294967296
    last_small n i =
        let room = (said s years (sym e)).days in
        let four : 4 ≤ length (drop 4 s) = omega (arith, length-drop 4 s) in
        omega (arith, i ∙ number_there 4 (drop 4 s) (omega arith) four, spelled_small 4 (drop 4 s) (bytes_drop 4 s b) four)
