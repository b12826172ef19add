-- The outages of a plan one after the other, and those that fit. Assumes nothing.
use mathlib.Core.Path.{◌≡◌, refl, sym, ap, ◌∙◌}
use mathlib.Core.Bool.{Bool, true, false, ◌&&◌}
use mathlib.Core.List.{List, [], ◌∷◌, ◌++◌}
use mathlib.Core.Logic.{◌⊎◌, inl, inr}
use Prim.Native.Nat.{ℕ, zero, suc, ◌+◌, ◌-◌, ◌≤◌, ◌<◌, min}
use native.Mathlib.Omega.{arith}
use borrow.Author.Tests.{leb-true, lt-leb}
use lib.Dec.{leb, ltb}
use lib.ListN.{length}
use Rattle.lists.proofs.Tests.{and_left, and_right, and_false, le_or_lt}
use Rattle.entries.specs.declared.Entry.{Entry}
use Rattle.entries.specs.Row.{good_regime_end, first_regime_end, last_regime_end, good_span}
use Rattle.plan.specs.declared.Plan.{Plan}
use Rattle.plan.specs.Plan.{step_minutes, start_after, outage_after, outages_from, most_outages, good_plan}
use Rattle.plan.specs.Steps.{latest, fitted_at}

-- ---- what a plan in range is
pub record Good (p : Plan) : Type 0 where
  pub some : 1 ≤ p.count
  pub few : p.count ≤ most_outages
  pub steps : 1 ≤ p.step
  pub window : p.length ≤ step_minutes p

pub plan_says : (p : Plan) → good_plan p ≡ true → Good p
plan_says p g =
    let a = and_left (leb 1 p.count && leb p.count most_outages) (leb 1 p.step && leb p.length (step_minutes p)) g in
    let b = and_right (leb 1 p.count && leb p.count most_outages) (leb 1 p.step && leb p.length (step_minutes p)) g in
    record {
      some = leb-true 1 p.count (and_left (leb 1 p.count) (leb p.count most_outages) a);
      few = leb-true p.count most_outages (and_right (leb 1 p.count) (leb p.count most_outages) a);
      steps = leb-true 1 p.step (and_left (leb 1 p.step) (leb p.length (step_minutes p)) b);
      window = leb-true p.length (step_minutes p) (and_right (leb 1 p.step) (leb p.length (step_minutes p)) b);
    }

module _ (p : Plan) where
  -- ---- one after the other
  pub from_length : (steps n : ℕ) → length (outages_from p steps n) ≡ n
  unfolding outages_from
  from_length steps zero = refl
  from_length steps (suc n) = ap suc (from_length (suc steps) n)

  -- one more behind them
  from_more : (steps n : ℕ) → outages_from p steps (suc n) ≡ outages_from p steps n ++ (outage_after p (steps + n) ∷ [])
  unfolding outages_from
  from_more steps zero = let e : steps + 0 ≡ steps = omega arith in rw e refl
  from_more steps (suc n) = let e : suc steps + n ≡ steps + suc n = omega arith in ap (λ (es : List Entry). outage_after p steps ∷ es) (from_more (suc steps) n ∙ ap (λ (k : ℕ). outages_from p (suc steps) n ++ (outage_after p k ∷ [])) e)

  pub first_more : (n : ℕ) → outages_from p 0 (suc n) ≡ outages_from p 0 n ++ (outage_after p n ∷ [])
  first_more n = let e : 0 + n ≡ n = omega arith in from_more 0 n ∙ ap (λ (k : ℕ). outages_from p 0 n ++ (outage_after p k ∷ [])) e

  -- all of them are left at first, and then the first of those that are
  pub from_first : (n : ℕ) → outages_from p 0 n ≡ outages_from p 0 (n - 0)
  from_first n = let e : n ≡ n - 0 = omega arith in ap (outages_from p 0) e

  pub from_next : (steps n : ℕ) → steps < n → outages_from p steps (n - steps) ≡ outage_after p steps ∷ outages_from p (suc steps) (n - suc steps)
  unfolding outages_from
  from_next steps n h = let e : n - steps ≡ suc (n - suc steps) = omega arith in ap (outages_from p steps) e

  pub from_none : (n : ℕ) → outages_from p n (n - n) ≡ []
  unfolding outages_from
  from_none n = let e : n - n ≡ 0 = omega arith in ap (outages_from p n) e

  pub start_next : (steps : ℕ) → start_after p (suc steps) ≡ start_after p steps + step_minutes p
  start_next steps = omega arith

  -- ---- an outage within a regime fits
  module _ (regime_end steps : ℕ) (good : good_regime_end regime_end ≡ true) where
    end_most : regime_end ≤ last_regime_end
    end_most = leb-true regime_end last_regime_end (and_right (leb first_regime_end regime_end) (leb regime_end last_regime_end) good)

    fits_when : (outage_after p steps).end ≤ latest → fitted_at p steps ≡ outage_after p steps
    fits_when h =
        let s : min (outage_after p steps).start latest ≡ (outage_after p steps).start = omega arith in
        let t : min (outage_after p steps).end latest ≡ (outage_after p steps).end = omega arith in
        rw (s, t) refl

    pub fits : good_span regime_end (outage_after p steps) ≡ true → fitted_at p steps ≡ outage_after p steps
    fits g =
        let h : (outage_after p steps).end ≤ regime_end = leb-true (outage_after p steps).end regime_end (and_right (ltb (outage_after p steps).start (outage_after p steps).end) (leb (outage_after p steps).end regime_end) g) in
        fits_when (omega (arith, end_most))

    -- and one that does not fit is refused by its span, saturated or not
    pub span_fits : good_span regime_end (fitted_at p steps) ≡ good_span regime_end (outage_after p steps)
    span_fits = by (le_or_lt (outage_after p steps).end latest)
      where
        past : (e : Entry) → regime_end < e.end → good_span regime_end e ≡ false
        past e h = ap (λ (b : Bool). ltb e.start e.end && b) (lt-leb e.end regime_end h) ∙ and_false (ltb e.start e.end)

        by : ((outage_after p steps).end ≤ latest) ⊎ (latest < (outage_after p steps).end) → good_span regime_end (fitted_at p steps) ≡ good_span regime_end (outage_after p steps)
        by (inl h) = ap (good_span regime_end) (fits_when h)
        by (inr h) = past (fitted_at p steps) (omega (arith, end_most)) ∙ sym (past (outage_after p steps) (omega (arith, end_most)))
