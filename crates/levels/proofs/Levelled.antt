-- What the levels of a year come to, from what the calls made on the way answer. Assumes nothing.
use mathlib.Core.Path.{◌≡◌, refl, sym, ap, ◌∙◌}
use mathlib.Core.Bool.{Bool, true, false, not, ◌&&◌}
use mathlib.Core.List.{[], ◌∷◌}
use Prim.Native.Nat.{ℕ, ◌<◌}
use native.Mathlib.Omega.{arith}
use lib.IntN.{ℤ}
use Rattle.std.specs.Prelude.{Ok, Err}
use Rattle.lists.proofs.Tests.{not_no}
use Rattle.refusals.specs.declared.Refusal.{Refusal}
use Rattle.refusals.specs.declared.Refusal.TheVariants.{BadBook, BrokenLog, BadYear, TooLarge}
use Rattle.refusals.specs.Refusals.{first_applicable, refusal_number}
use Rattle.refusals.proofs.Laws.{all_clear, beside_accepted, never_zero}
use Rattle.refusals.proofs.Cases.{refused_meets}
use Rattle.calendar.specs.Years.{good_year_number}
use Rattle.outage.specs.declared.Log.{Log}
use Rattle.outage.specs.Log.{valid_log}
use Rattle.year.specs.declared.Year.{Year}
use Rattle.year.specs.Year.{good_year}
use Rattle.year.proofs.Says.{year_says}
use Rattle.levels.specs.declared.Book.{Book}
use Rattle.levels.specs.Book.{book_holds, good_book}
use Rattle.levels.specs.Availability.{meets_target, availability_rows, TargetGives}
use Rattle.levels.specs.Levels.{aif_of, cap_level, floor_level, floor_of, level_fits, levels_rows, no_levels, LevelsGives}
use Rattle.levels.proofs.Says.{holds_good}

-- a row that stops the target stops the levels, with the same number: a bad number makes a bad year
same_stop : (b v n y t : Bool) → (y ≡ true → n ≡ true)
    → 0 < first_applicable ((BadBook, not b) ∷ (BrokenLog, not v) ∷ (BadYear, not n) ∷ [])
    → first_applicable ((BadBook, not b) ∷ (BrokenLog, not v) ∷ (BadYear, not n) ∷ [])
    ≡ first_applicable ((BadBook, not b) ∷ (BrokenLog, not v) ∷ (BadYear, not y) ∷ (TooLarge, t) ∷ [])
same_stop false v n y t f h = refl
same_stop true false n y t f h = refl
same_stop true true false false t f h = refl
same_stop true true false true t f h = let e = f refl in let z : ◌≡◌ {A = ℕ} 0 1 = cc in absurd (omega arith)
same_stop true true true y t f h = absurd (omega arith)

module _ (book : Book) (y : Year) (log : Log) where
  -- a refusal by its number
  gives_none : (why : Refusal) → refusal_number why ≡ first_applicable (levels_rows book y log) → LevelsGives book y log (Err why)
  gives_none = refused_meets no_levels (levels_rows book y log) (record { cap = cap_level book y; floor = floor_of book y log })

  -- the target is refused
  pub gives_no_target : (why : Refusal) → refusal_number why ≡ first_applicable (availability_rows book log y.number) → LevelsGives book y log (Err why)
  gives_no_target why g =
      let b = book_holds book log.regime_end in
      let n = good_year_number y.number in
      let t = not (level_fits (cap_level book y) && level_fits (floor_of book y log)) in
      gives_none why
      (g ∙ same_stop b (valid_log log) n (good_year y) t (λ e. (year_says y e).number) (omega (arith, never_zero why)))

  -- ---- the target is told
  module _ {met : Bool} (told : TargetGives book log y.number (Ok met)) where
    book_holds_is : book_holds book log.regime_end ≡ true
    book_holds_is = not_no (book_holds book log.regime_end) (all_clear (availability_rows book log y.number) (sym told.0)).0

    valid : valid_log log ≡ true
    valid = not_no (valid_log log) (all_clear (availability_rows book log y.number) (sym told.0)).1.0

    pub good : good_book book ≡ true
    good = holds_good book log.regime_end book_holds_is

    met_is : met ≡ meets_target book log y.number
    met_is = beside_accepted (availability_rows book log y.number) 0 met (meets_target book log y.number) false told.0 told.1 refl

    -- the year is refused
    pub gives_no_year : (why : Refusal) → good_year y ≡ false → refusal_number why ≡ 9 → LevelsGives book y log (Err why)
    gives_no_year why bad e = gives_none why (e ∙ simp (book_holds_is, valid, bad))

    -- ---- the levels, and whether they fit
    module _ (k : good_year y ≡ true) where
      floor_is : (floor : ℤ) → floor ≡ floor_level book y (aif_of met y.exceptional book.miss_factor) → floor ≡ floor_of book y log
      floor_is floor e = e ∙ ap (λ (m : Bool). floor_level book y (aif_of m y.exceptional book.miss_factor)) met_is

      module _ {cap floor : ℤ} (c : cap ≡ cap_level book y) (f : floor ≡ floor_level book y (aif_of met y.exceptional book.miss_factor)) where
        pub gives_large : (level_fits cap && level_fits floor) ≡ false → LevelsGives book y log (Err TooLarge)
        gives_large h =
            let m : (level_fits (cap_level book y) && level_fits (floor_of book y log)) ≡ false = rw (c, floor_is floor f) at h in
            gives_none TooLarge (simp (book_holds_is, valid, k, m))

        pub gives_levels : (level_fits cap && level_fits floor) ≡ true → LevelsGives book y log (Ok (record { cap = cap; floor = floor }))
        gives_levels h =
            let m : (level_fits (cap_level book y) && level_fits (floor_of book y log)) ≡ true = rw (c, floor_is floor f) at h in
            simp (book_holds_is, valid, k, m) (refl, λ i. record { cap = c i; floor = floor_is floor f i })
