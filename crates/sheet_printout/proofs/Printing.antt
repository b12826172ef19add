-- What is printed has room; and what a printing and a refusal give. Assumes nothing.
use mathlib.Core.Path.{◌≡◌, refl, sym, ap, ◌∙◌}
use mathlib.Core.Bool.{Bool, true, false, cond, ◌||◌}
use mathlib.Core.List.{List, [], ◌∷◌, ◌++◌}
use mathlib.Core.Logic.{⊎_elim}
use Prim.Native.Nat.{ℕ, zero, suc, ◌+◌, ◌-◌, ◌≤◌, ◌<◌, ◌/◌, ◌%◌, ◌^◌}
use native.Mathlib.Omega.{arith}
use borrow.Author.Tests.{le-ltb, eq-eqb, ne_eqb}
use lib.Dec.{ltb, eqb}
use lib.ListN.{length, length-append}
use Rattle.lists.proofs.Tests.{le_or_lt}
use Rattle.std.specs.Prelude.{Result, Ok}
use Rattle.refusals.specs.declared.Refusal.{Refusal}
use Rattle.refusals.specs.declared.Refusal.TheVariants.{BadStretch}
use Rattle.refusals.specs.Refusals.{Rows, accepted, answer_number, first_applicable, given_or}
use Rattle.refusals.specs.Answers.{One}
use Rattle.refusals.proofs.Cases.{one_case, same_case}
use Rattle.entries.specs.declared.Entry.{Entry}
use Rattle.entries.specs.Row.{last_regime_end}
use Rattle.text.specs.declared.Text.{Text}
use Rattle.text.specs.Text.{decimal, digits, pushed, room, text_of}
use Rattle.text.proofs.Laws.{digits_few, digits_most, digits_one, digits_more, pushed_more, pushed_text}
use Rattle.sheet_printout.specs.Dates.{date_of, moment_of, named_cause, outage_line, time_of, year_on}
use Rattle.sheet_printout.proofs.Dates.{right_date}

-- ---- there is room
moment_room : (minute : ℕ) → minute ≤ last_regime_end → length (moment_of minute) ≤ 16
unfolding moment_of date_of time_of
moment_room minute h =
    simp length-append (omega (arith, digits_few 20 (year_on minute) 4 (omega arith) (omega (arith, (right_date minute h).to_year))))

pub minute_room : (minute : ℕ) → minute ≤ last_regime_end → length (moment_of minute) ≤ room
minute_room minute h = omega (arith, moment_room minute h)

cause_room : (cause : ℕ) → length (named_cause cause) ≤ 4
unfolding named_cause
cause_room cause = by (eqb cause 1)
  where
    by : (b : Bool) → length (cond b [] (32 ∷ digits 3 cause)) ≤ 4
    by true = omega arith
    by false = omega (arith, digits_most 3 cause)

pub line_room : (e : Entry) → e.start ≤ last_regime_end → e.end ≤ last_regime_end → length (outage_line e) ≤ room
unfolding outage_line
line_room e h k =
    simp length-append (omega (arith, moment_room e.start h, moment_room e.end k, digits_most 20 e.mw, cause_room e.cause))

-- ---- a number of few digits has the same ones where more are allowed
same_digits : (j k n : ℕ) → n < 10 ^ suc j → suc j ≤ k → digits k n ≡ digits (suc j) n
same_digits zero k n h w = digits_one k n (λ z. omega arith) (omega arith) ∙ sym (digits_one 1 n (λ z. omega arith) (omega arith))
same_digits (suc j) k n h w =
    ⊎_elim
    (λ (l : 10 ≤ n).
    let r : suc (suc j) - 1 ≡ suc j = omega arith in
    digits_more k n (λ z. omega arith) l
    ∙ ap (λ (l : List ℕ). l ++ ((48 + n % 10) ∷ [])) (same_digits j (k - 1) (n / 10) (omega arith) (omega arith) ∙ sym (ap (λ (i : ℕ). digits i (n / 10)) r))
    ∙ sym (digits_more (suc (suc j)) n (λ z. omega arith) l))
    (λ (l : n < 10). digits_one k n (λ z. omega arith) l ∙ sym (digits_one (suc (suc j)) n (λ z. omega arith) l))
    (le_or_lt 10 n)

-- ---- what names a cause
module _ (t : Text) (cause : ℕ) where
  -- 1 is not named
  pub first_cause : cause ≡ 1 → t ≡ pushed t (named_cause cause)
  unfolding named_cause pushed
  first_cause h = rw (eq-eqb cause 1 h) refl

  pub other_cause : (cause ≡ 1 → ⊥) → cause < 256 → pushed t (named_cause cause) ≡ pushed (pushed t (32 ∷ [])) (decimal cause)
  unfolding named_cause
  other_cause h w =
      rw (ne_eqb cause 1 h) (pushed_more t 32 (digits 3 cause) ∙ ap (pushed (pushed t (32 ∷ []))) (sym (same_digits 2 20 cause (omega arith) (omega arith))))

-- ---- whether a minute of an outage is past the last regime end
abbrev pub past_end : Entry → Bool
past_end e = ltb last_regime_end e.start || ltb last_regime_end e.end

pub none_past : (e : Entry) → e.start ≤ last_regime_end → e.end ≤ last_regime_end → past_end e ≡ false
none_past e h k = rw (le-ltb last_regime_end e.start h, le-ltb last_regime_end e.end k)

pushed_whole : (bs : List ℕ) → length bs ≤ room → pushed (text_of []) bs ≡ text_of bs
pushed_whole bs h = pushed_text [] bs (omega arith)

-- ---- one row, and the bytes that are printed where it does not apply
abbrev pub one_row : Bool → Rows
one_row past = (BadStretch, past) ∷ []

abbrev pub Gives : Bool → List ℕ → Result Text Refusal → Type 0
Gives past bs r =
    (answer_number r ≡ first_applicable (one_row past))
    × (given_or (text_of []) r ≡ cond (accepted (one_row past)) (text_of bs) (text_of []))
    × ((given_or (text_of []) r).length ≤ room)

module _ (past : Bool) (bs : List ℕ) where
  pub done_given : (t : Text) → past ≡ false → length bs ≤ room → t ≡ pushed (text_of []) bs → Gives past bs (Ok t)
  done_given t e h p =
      let q : t ≡ text_of bs = p ∙ pushed_whole bs h in
      rw e (refl, q, omega (arith, ap (λ (x : Text). x.length) q))

  pub same_printed : (r s : Result Text Refusal) → Gives past bs r → Gives past bs s → r ≡ s
  same_printed r s p q = same_case (text_of []) r s (p.0 ∙ sym q.0) (p.1 ∙ sym q.1)

  pub one_printed : (past ≡ false → length bs ≤ room) → One (Gives past bs)
  one_printed h =
      let o = one_case (text_of []) (one_row past) (text_of bs) in
      record {
        result = o.result;
        meets = (o.meets.0, o.meets.1, rw o.meets.1 (by past h));
        alone = λ other g. o.alone other (g.0, g.1);
      }
    where
      by : (b : Bool) → (b ≡ false → length bs ≤ room) → (cond (accepted (one_row b)) (text_of bs) (text_of [])).length ≤ room
      by true k = omega arith
      by false k = k refl
