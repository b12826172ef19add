-- A number determines its refusal, and 0 says that no row applies. Assumes nothing.
use mathlib.Core.Path.{◌≡◌, refl, sym, ap, ◌∙◌}
use mathlib.Core.Bool.{Bool, true, false, cond}
use mathlib.Core.List.{List, [], ◌∷◌, ◌++◌, map}
use Prim.Native.Nat.{ℕ, zero, suc, ◌<◌}
use native.Mathlib.Omega.{arith}
use native.Mathlib.Nat.{not-suc-le-zero}
use borrow.Author.Tests.{eq-eqb, ne_eqb, eqb-true}
use lib.Dec.{eqb}
use lib.ListN.{get_or}
use Rattle.refusals.specs.declared.Refusal.{Refusal}
use Rattle.refusals.specs.declared.Refusal.TheVariants.{BrokenLog, BadSpan, BadPower, Clash, FullLog, NoSuchEntry, BadStretch, BadBook, BadYear, FloorAboveCap, TooLarge, BadPeriod, Malformed, NoRoom, BadPiece, ClosedTime, BadPlan, BadCell, HeldAlready, NotOnSheet}
use Rattle.std.specs.Prelude.{Result, Ok, Err, ⊤}
use Rattle.refusals.specs.Refusals.{refusal_number, answer_number, first_applicable, accepted, Rows}
use Rattle.refusals.specs.Order.{in_turn, on_sheets}

-- the refusals by their numbers, from 1
by_number : List Refusal
by_number =
    BrokenLog
    ∷ BadSpan
    ∷ BadPower
    ∷ Clash
    ∷ FullLog
    ∷ NoSuchEntry
    ∷ BadStretch
    ∷ BadBook
    ∷ BadYear
    ∷ FloorAboveCap
    ∷ TooLarge
    ∷ BadPeriod
    ∷ Malformed
    ∷ NoRoom
    ∷ BadPiece
    ∷ ClosedTime
    ∷ BadPlan
    ∷ BadCell
    ∷ HeldAlready
    ∷ NotOnSheet
    ∷ []

named : ℕ → Refusal
named zero = NoRoom
named (suc n) = get_or by_number n NoRoom

named_number : (r : Refusal) → named (refusal_number r) ≡ r
unfolding named by_number
named_number BrokenLog = refl
named_number BadSpan = refl
named_number BadPower = refl
named_number Clash = refl
named_number FullLog = refl
named_number NoSuchEntry = refl
named_number BadStretch = refl
named_number BadBook = refl
named_number BadYear = refl
named_number FloorAboveCap = refl
named_number TooLarge = refl
named_number BadPeriod = refl
named_number Malformed = refl
named_number NoRoom = refl
named_number BadPiece = refl
named_number ClosedTime = refl
named_number BadPlan = refl
named_number BadCell = refl
named_number HeldAlready = refl
named_number NotOnSheet = refl

pub same_refusal : (r s : Refusal) → refusal_number r ≡ refusal_number s → r ≡ s
same_refusal r s e = sym (named_number r) ∙ ap named e ∙ named_number s

pub never_zero : (r : Refusal) → 0 < refusal_number r
never_zero BrokenLog = omega arith
never_zero BadSpan = omega arith
never_zero BadPower = omega arith
never_zero Clash = omega arith
never_zero FullLog = omega arith
never_zero NoSuchEntry = omega arith
never_zero BadStretch = omega arith
never_zero BadBook = omega arith
never_zero BadYear = omega arith
never_zero FloorAboveCap = omega arith
never_zero TooLarge = omega arith
never_zero BadPeriod = omega arith
never_zero Malformed = omega arith
never_zero NoRoom = omega arith
never_zero BadPiece = omega arith
never_zero ClosedTime = omega arith
never_zero BadPlan = omega arith
never_zero BadCell = omega arith
never_zero HeldAlready = omega arith
never_zero NotOnSheet = omega arith

pub same_answer : (a b : Result ⊤ Refusal) → answer_number a ≡ answer_number b → a ≡ b
same_answer (Ok x) (Ok y) e = refl
same_answer (Ok x) (Err s) e = absurd (not-suc-le-zero {n = 0} (omega (arith, never_zero s)))
same_answer (Err r) (Ok y) e = absurd (not-suc-le-zero {n = 0} (omega (arith, never_zero r)))
same_answer (Err r) (Err s) e = ap Err (same_refusal r s e)

-- where no row applies, each row's test fails, one after the other
abbrev pub AllClear : Rows → Type 0
AllClear [] = Unit {0}
AllClear (row ∷ rows) = (row.1 ≡ false) × AllClear rows

pub all_clear : (rows : Rows) → first_applicable rows ≡ 0 → AllClear rows
all_clear [] e = tt
all_clear (row ∷ rows) e = by row.1 e (all_clear rows)
  where
    by : (b : Bool) → cond b (refusal_number row.0) (first_applicable rows) ≡ 0 → (first_applicable rows ≡ 0 → AllClear rows) → (b ≡ false) × AllClear rows
    by true e f = absurd (not-suc-le-zero {n = 0} (omega (arith, never_zero row.0)))
    by false e f = (refl, f e)

-- ---- what an answer says of the rows that it was found by
module _ {A : Type 0} (a : Result A Refusal) (rows : Rows) (n : answer_number a ≡ first_applicable rows) where
  pub done_clear : (x : A) → a ≡ Ok x → first_applicable rows ≡ 0
  done_clear x e = sym n ∙ ap answer_number e

  pub done_accepted : (x : A) → a ≡ Ok x → accepted rows ≡ true
  done_accepted x e = eq-eqb (first_applicable rows) 0 (done_clear x e)

  pub refused_not : (why : Refusal) → a ≡ Err why → accepted rows ≡ false
  refused_not why e =
      let k : first_applicable rows ≡ refusal_number why = sym n ∙ ap answer_number e in
      ne_eqb (first_applicable rows) 0 (λ z. not-suc-le-zero {n = 0} (omega (arith, never_zero why)))

-- from a refusal to its row: where no row before it applies, the last row does, and the refusal is its
pub last_row : (front : Rows) (last why : Refusal) (t : Bool) → AllClear front → refusal_number why ≡ first_applicable (front ++ ((last, t) ∷ [])) → (t ≡ true) × (why ≡ last)
last_row [] last why true c e = (refl, same_refusal why last e)
last_row [] last why false c e = absurd (not-suc-le-zero {n = 0} (omega (arith, never_zero why)))
last_row (row ∷ front) last why t c e =
    last_row front last why t c.1 (e ∙ ap (λ (b : Bool). cond b (refusal_number row.0) (first_applicable (front ++ ((last, t) ∷ [])))) c.0)

-- rows that ask which refusal other rows gave: each refusal that they can give has its row
abbrev pub which_of : ℕ → Rows → Rows
which_of n [] = []
which_of n (row ∷ rows) = (row.0, eqb n (refusal_number row.0)) ∷ which_of n rows

pub which_none : (rows : Rows) → first_applicable (which_of 0 rows) ≡ 0
which_none [] = refl
which_none (row ∷ rows) = rw (ne_eqb 0 (refusal_number row.0) (λ e. not-suc-le-zero {n = 0} (omega (arith, never_zero row.0)))) (which_none rows)

pub which_is : (rows : Rows) → first_applicable (which_of (first_applicable rows) rows) ≡ first_applicable rows
which_is [] = refl
which_is (row ∷ rows) = by row.1 (eqb (first_applicable rows) (refusal_number row.0)) refl (which_is rows)
  where
    by : (b same : Bool) → eqb (first_applicable rows) (refusal_number row.0) ≡ same → first_applicable (which_of (first_applicable rows) rows) ≡ first_applicable rows
        → first_applicable (which_of (cond b (refusal_number row.0) (first_applicable rows)) (row ∷ rows)) ≡ cond b (refusal_number row.0) (first_applicable rows)
    by true same e h = rw (eq-eqb (refusal_number row.0) (refusal_number row.0) refl) refl
    by false true e h = rw e (sym (eqb-true (first_applicable rows) (refusal_number row.0) e))
    by false false e h = rw e h

-- what a call gives is the one thing where it is not refused and the other where it is
module _ {A : Type 0} (rows : Rows) (n : ℕ) (given asked other : A) (number : n ≡ first_applicable rows) (is : given ≡ cond (accepted rows) asked other) where
  pub beside_accepted : n ≡ 0 → given ≡ asked
  beside_accepted z = is ∙ ap (λ (b : Bool). cond b asked other) (eq-eqb (first_applicable rows) 0 (sym number ∙ z))

  pub beside_refused : (n ≡ 0 → ⊥) → given ≡ other
  beside_refused z = is ∙ ap (λ (b : Bool). cond b asked other) (ne_eqb (first_applicable rows) 0 (λ e. z (number ∙ e)))

-- the numbers in the order in which they are looked for: each of 1 to 14, 16, 17, 19 and 20 once
pub turns : map refusal_number in_turn ≡ 8 ∷ 1 ∷ 17 ∷ 2 ∷ 3 ∷ 16 ∷ 19 ∷ 4 ∷ 5 ∷ 6 ∷ 7 ∷ 9 ∷ 12 ∷ 11 ∷ 10 ∷ 13 ∷ 20 ∷ 14 ∷ []
turns = refl

-- and on a day sheet
pub turns_on_sheets : map refusal_number on_sheets ≡ 8 ∷ 13 ∷ 15 ∷ 2 ∷ 3 ∷ 4 ∷ 5 ∷ []
turns_on_sheets = refl
