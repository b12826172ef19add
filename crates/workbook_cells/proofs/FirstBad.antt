-- The first bad cell, from the tests of a reading. Assumes nothing.
use mathlib.Core.Path.{◌≡◌, refl, sym, ap, ◌∙◌}
use mathlib.Core.Logic.{◌⊎◌, inl, inr}
use mathlib.Core.Bool.{Bool, true, false, not, cond}
use mathlib.Core.List.{List}
use Rattle.std.specs.Prelude.{Option, Some, None, unwrap_or, is_none, Result, Ok, Err}
use Prim.Native.Nat.{ℕ, ◌≤◌, ◌<◌}
use native.Mathlib.Omega.{arith}
use borrow.Author.Tests.{ltb-true, ltb-false, lt-ltb, lt-leb, le-leb}
use lib.Dec.{ltb}
use lib.IntN.{ℤ, pos}
use lib.Ieee.{fin}
use Rattle.refusals.specs.declared.RefusedAt.{RefusedAt}
use Rattle.floats.specs.Floats.{times_of, whole_day, half_days}
use Rattle.lists.proofs.Tests.{le_or_lt}
use Rattle.median_period.specs.declared.MedianPeriod.{MedianPeriod}
use Rattle.median_period.specs.Medians.{day_or, days_agree, good_medians}
use Rattle.median_period.proofs.Laws.{no_day, a_day}
use Rattle.cells.specs.declared.Cell.{Cell}
use Rattle.cells.specs.declared.Cell.TheVariants.{Empty, Number, Day}
use Rattle.cells.specs.declared.Slot.{Slot}
use Rattle.cells.specs.Cells.{day_in, twice_in, day_float}
use Rattle.workbook_cells.specs.Workbook.{first_from, last_fits, cell_at, bad_cell, first_bad}
use Rattle.workbook_cells.specs.Calls.{amounts_in, period_in}
use Rattle.workbook_cells.specs.Steps.{bad_at, bad_number, first_bad_number, amounts_read}
use Rattle.workbook_cells.proofs.Tables.{first_split, first_same, first_most}

-- ---- a day's cell, by its float: 0.0 is no day
zero_day : whole_day (fin false 0 (pos 0)) ≡ None
unfolding times_of
zero_day = refl

zero_halves : half_days (fin false 0 (pos 0)) ≡ None
unfolding times_of
zero_halves = refl

pub day_by_float : (c : Cell) → day_in c ≡ whole_day (day_float c)
day_by_float (Day x) = refl
day_by_float (Number x) = sym zero_day
day_by_float Empty = sym zero_day

pub halves_by_float : (c : Cell) → twice_in c ≡ half_days (day_float c)
halves_by_float (Day x) = refl
halves_by_float (Number x) = sym zero_halves
halves_by_float Empty = sym zero_halves

-- ---- the amounts of the first 25 cells, by the first of these that holds none
module _ (slots : List Slot) where
  abbrev read_by : ℕ → Bool → Result (List ℤ) RefusedAt
  read_by k bad = cond bad (Err (bad_at k)) (Ok (amounts_in slots))

  pub number_refused : (i : ℕ) → first_bad_number slots ≡ i → i < 25 → amounts_read slots ≡ Err (bad_at i)
  number_refused i e h = ap (λ (k : ℕ). read_by k (ltb k 25)) e ∙ ap (read_by i) (lt-ltb i 25 h)

  pub numbers_read : first_bad_number slots ≡ 25 → amounts_read slots ≡ Ok (amounts_in slots)
  numbers_read e = ap (λ (k : ℕ). read_by k (ltb k 25)) e

  pub from_refused : (e : RefusedAt) → Err e ≡ amounts_read slots → (first_bad_number slots < 25) × (e ≡ bad_at (first_bad_number slots))
  from_refused e r = by (ltb (first_bad_number slots) 25) refl r
    where
      by : (b : Bool) → ltb (first_bad_number slots) 25 ≡ b → Err e ≡ read_by (first_bad_number slots) b
          → (first_bad_number slots < 25) × (e ≡ bad_at (first_bad_number slots))
      by true t r = (ltb-true (first_bad_number slots) 25 t, cc)
      by false t r = cc

  pub from_read : (a : List ℤ) → Ok a ≡ amounts_read slots → (first_bad_number slots ≡ 25) × (a ≡ amounts_in slots)
  from_read a r = by (ltb (first_bad_number slots) 25) refl r
    where
      by : (b : Bool) → ltb (first_bad_number slots) 25 ≡ b → Ok a ≡ read_by (first_bad_number slots) b → (first_bad_number slots ≡ 25) × (a ≡ amounts_in slots)
      by true t r = cc
      by false t r = (omega (arith, first_most (bad_number slots) 25 0, ltb-false (first_bad_number slots) 25 t), cc)

-- ---- the first 25 cells, and then the three days
module _ (slots : List Slot) where
  pub number_cell : (i : ℕ) → i < 25 → bad_cell slots i ≡ bad_number slots i
  number_cell i h = rw (lt-ltb i 25 h) refl

  same_numbers : first_from (bad_cell slots) 25 0 ≡ first_bad_number slots
  same_numbers = first_same (bad_cell slots) (bad_number slots) 25 0 (λ i l h. number_cell i h)

  split : first_bad slots ≡ cond (ltb (first_bad_number slots) 25) (first_bad_number slots) (first_from (bad_cell slots) 3 25)
  split =
      first_split (bad_cell slots) 25 3 0
      ∙ ap (λ (k : ℕ). cond (ltb k 25) k (first_from (bad_cell slots) 3 25)) same_numbers

  pub bad_number_law : (k : ℕ) → k ≡ first_bad_number slots → k < 25 → first_bad slots ≡ k
  bad_number_law k e h =
      split
      ∙ ap (λ (j : ℕ). cond (ltb j 25) j (first_from (bad_cell slots) 3 25)) (sym e)
      ∙ ap (λ (b : Bool). cond b k (first_from (bad_cell slots) 3 25)) (lt-ltb k 25 h)

  module _ (numbers : first_bad_number slots ≡ 25) where
    to_days : first_bad slots ≡ first_from (bad_cell slots) 3 25
    to_days = split ∙ ap (λ (j : ℕ). cond (ltb j 25) j (first_from (bad_cell slots) 3 25)) numbers

    abbrev first : Option ℕ
    first = day_in (cell_at slots 25)

    abbrev last : Option ℕ
    last = day_in (cell_at slots 26)

    abbrev twice : Option ℕ
    twice = twice_in (cell_at slots 27)

    by_days : first_bad slots ≡ cond (is_none first) 25 (cond (not (last_fits first last)) 26 (cond (not (days_agree first last twice)) 27 28))
    unfolding first_from
    by_days = to_days

    -- the tests, as the code has them
    module _ (p : MedianPeriod) (is : p ≡ period_in slots) where
      first_is : first ≡ whole_day p.first
      first_is = day_by_float (cell_at slots 25) ∙ ap (λ (q : MedianPeriod). whole_day q.first) (sym is)

      last_is : last ≡ whole_day p.last
      last_is = day_by_float (cell_at slots 26) ∙ ap (λ (q : MedianPeriod). whole_day q.last) (sym is)

      twice_is : twice ≡ half_days p.median
      twice_is = halves_by_float (cell_at slots 27) ∙ ap (λ (q : MedianPeriod). half_days q.median) (sym is)

      agree : days_agree first last twice ≡ good_medians p
      agree =
          ap (λ (o : Option ℕ). days_agree o last twice) first_is
          ∙ ap (λ (o : Option ℕ). days_agree (whole_day p.first) o twice) last_is
          ∙ ap (days_agree (whole_day p.first) (whole_day p.last)) twice_is

      pub bad_first : day_or p.first ≡ 0 → first_bad slots ≡ 25
      bad_first e =
          by_days
          ∙ ap (λ (o : Option ℕ). cond (is_none o) 25 (cond (not (last_fits o last)) 26 (cond (not (days_agree o last twice)) 27 28)))
          (first_is ∙ no_day p.first (omega arith))

      module _ (there : day_or p.first ≡ 0 → ⊥) where
        a_first : whole_day p.first ≡ Some (day_or p.first)
        a_first = by (le_or_lt 61 (day_or p.first))
          where
            by : (61 ≤ day_or p.first) ⊎ (day_or p.first < 61) → whole_day p.first ≡ Some (day_or p.first)
            by (inl h) = a_day p.first h
            by (inr h) = absurd (there (ap (λ (o : Option ℕ). unwrap_or o 0) (no_day p.first h)))

        after_first : first_bad slots ≡ cond (not (last_fits (Some (day_or p.first)) (whole_day p.last))) 26 (cond (not (good_medians p)) 27 28)
        after_first =
            by_days
            ∙ ap (λ (o : Option ℕ). cond (is_none o) 25 (cond (not (last_fits o last)) 26 (cond (not (days_agree first last twice)) 27 28))) (first_is ∙ a_first)
            ∙ ap (λ (o : Option ℕ). cond (not (last_fits (Some (day_or p.first)) o)) 26 (cond (not (days_agree first last twice)) 27 28)) last_is
            ∙ ap (λ (b : Bool). cond (not (last_fits (Some (day_or p.first)) (whole_day p.last))) 26 (cond (not b) 27 28)) agree

        pub bad_last : day_or p.last < day_or p.first → first_bad slots ≡ 26
        bad_last h =
            after_first
            ∙ ap (λ (b : Bool). cond {A = ℕ} (not b) 26 (cond (not (good_medians p)) 27 28)) (before (whole_day p.last) h)
          where
            before : (o : Option ℕ) → unwrap_or o 0 < day_or p.first → last_fits (Some (day_or p.first)) o ≡ false
            before None h = refl
            before (Some b) h = lt-leb (day_or p.first) b h

        module _ (order : day_or p.first ≤ day_or p.last) where
          fits : last_fits (Some (day_or p.first)) (whole_day p.last) ≡ true
          fits = by (whole_day p.last) order
            where
              by : (o : Option ℕ) → day_or p.first ≤ unwrap_or o 0 → last_fits (Some (day_or p.first)) o ≡ true
              by None h = absurd (there (omega arith))
              by (Some b) h = le-leb (day_or p.first) b h

          after_last : first_bad slots ≡ cond (not (good_medians p)) 27 28
          after_last = after_first ∙ ap (λ (b : Bool). cond {A = ℕ} (not b) 26 (cond (not (good_medians p)) 27 28)) fits

          pub bad_median : good_medians p ≡ false → first_bad slots ≡ 27
          bad_median e = after_last ∙ ap (λ (b : Bool). cond {A = ℕ} (not b) 27 28) e

          pub none_bad : good_medians p ≡ true → first_bad slots ≡ 28
          none_bad e = after_last ∙ ap (λ (b : Bool). cond {A = ℕ} (not b) 27 28) e
