-- What holds in the loop that lists a plan, and what it comes to. Assumes nothing.
use mathlib.Core.Path.{◌≡◌, refl, sym, ap, ◌∙◌}
use mathlib.Core.Bool.{true, false}
use mathlib.Core.List.{List, []}
use Prim.Native.Nat.{ℕ, suc, ◌+◌, ◌-◌, ◌≤◌, ◌<◌}
use native.Mathlib.Omega.{arith}
use lib.ListN.{set}
use Rattle.std.specs.Prelude.{Ok, Err}
use Rattle.lists.specs.Lists.{padded}
use Rattle.lists.proofs.Tests.{not_no}
use Rattle.lists.proofs.Padded.{padded_more}
use Rattle.refusals.specs.declared.Refusal.{Refusal}
use Rattle.refusals.specs.declared.RefusedAt.{RefusedAt}
use Rattle.refusals.specs.Refusals.{refusal_number, first_applicable}
use Rattle.refusals.proofs.Laws.{all_clear, which_is, which_of}
use Rattle.entries.specs.declared.Entry.{Entry}
use Rattle.entries.specs.Row.{good_regime_end, good_span, zero_entry}
use Rattle.plan.specs.declared.Plan.{Plan}
use Rattle.plan.specs.declared.listing.Listed.{Listed}
use Rattle.plan.specs.Plan.{outage_after, outages_from, most_outages, good_plan}
use Rattle.plan.specs.Calls.{Outcome, through, failed, one_by_one, outage_rows, longer, listing, list_of, ListGives}
use Rattle.plan.specs.Steps.{fitted_at}
use Rattle.plan.proofs.OneByOne.{none_left, one_goes, one_fails}
use Rattle.plan.proofs.Outages.{plan_says, from_length, first_more, from_first, from_next, from_none, fits, span_fits}

listed : {k l : List Entry} {m n : ℕ} → k ≡ l → m ≡ n → ◌≡◌ {A = Listed} (record { entries = k; count = m }) (record { entries = l; count = n })
listed p q = cc

module _ (regime_end : ℕ) (p : Plan) where
  -- those that are left, behind so many that are listed
  abbrev pub listing_from : ℕ → List Entry → List Entry → Outcome (List Entry)
  listing_from outage before es = one_by_one (λ (before : List Entry). outage_rows regime_end) longer outage before es

  -- the first k outages stand in the first slots, and the others are still to come
  pub record Lists (row : List Entry) (k : ℕ) : Type 0 where
    pub few : k ≤ p.count
    pub stored : row ≡ padded most_outages zero_entry (outages_from p 0 k)
    pub so_far : listing regime_end p ≡ listing_from (suc k) (outages_from p 0 k) (outages_from p k (p.count - k))

  module _ (good : good_regime_end regime_end ≡ true) (plans : good_plan p ≡ true) where
    pub none_listed : (row : List Entry) → row ≡ padded most_outages zero_entry [] → Lists row 0
    unfolding outages_from
    none_listed row e = record { few = omega arith; stored = e; so_far = ap (listing_from 1 []) (from_first p p.count) }

    same_rows : (k : ℕ) → first_applicable (outage_rows regime_end (fitted_at p k)) ≡ first_applicable (outage_rows regime_end (outage_after p k))
    same_rows k = rw (span_fits p regime_end k good) refl

    module _ {row : List Entry} {k : ℕ} (l : Lists row k) (more : k < p.count) where
      -- the next goes through
      pub one_listed : first_applicable (outage_rows regime_end (fitted_at p k)) ≡ 0 → Lists (set row k (fitted_at p k)) (k + 1)
      one_listed h =
          let n = sym (same_rows k) ∙ h in
          let c = all_clear (outage_rows regime_end (outage_after p k)) n in
          let is = fits p regime_end k good (not_no (good_span regime_end (outage_after p k)) c.0) in
          let e : k + 1 ≡ suc k = omega arith in
          rw e
          record {
            few = omega arith;
            stored = rw (l.stored, is) (padded_more most_outages zero_entry (outages_from p 0 k) (outage_after p k) k (from_length p 0 k) (omega (arith, (plan_says p plans).few)))
                ∙ ap (padded most_outages zero_entry) (sym (first_more p k));
            so_far = l.so_far
                ∙ ap (listing_from (suc k) (outages_from p 0 k)) (from_next p k p.count more)
                ∙ one_goes (λ (before : List Entry). outage_rows regime_end) longer (suc k) (outages_from p 0 k) (outage_after p k) (outages_from p (suc k) (p.count - suc k)) n
                ∙ ap (λ (before : List Entry). listing_from (suc (suc k)) before (outages_from p (suc k) (p.count - suc k))) (sym (first_more p k));
          }

      -- the next fails
      pub gives_failed : (why : Refusal) → refusal_number why ≡ first_applicable (outage_rows regime_end (fitted_at p k)) → ListGives regime_end p (Err (record { why = why; at = k + 1 }))
      gives_failed why h =
          let n = h ∙ same_rows k in
          let f : listing regime_end p ≡ failed (refusal_number why) (suc k) =
          l.so_far ∙ ap (listing_from (suc k) (outages_from p 0 k)) (from_next p k p.count more)
          ∙ one_fails (λ (before : List Entry). outage_rows regime_end) longer (suc k) (outages_from p 0 k) (outage_after p k) (outages_from p (suc k) (p.count - suc k)) why n in
          let e : k + 1 ≡ suc k = omega arith in
          rw (good, plans, f, e) (sym (ap (λ (m : ℕ). first_applicable (which_of m (outage_rows regime_end (outage_after p k)))) n ∙ which_is (outage_rows regime_end (outage_after p k)) ∙ sym n), refl, refl)

    -- all of them go through
    pub gives_all : {row : List Entry} {k : ℕ} → Lists row k → p.count ≤ k → ListGives regime_end p (Ok (record { entries = row; count = p.count }))
    gives_all {row} {k} l h =
        let e : k ≡ p.count = omega (arith, l.few) in
        let f : listing regime_end p ≡ through (outages_from p 0 k) =
        l.so_far ∙ ap (listing_from (suc k) (outages_from p 0 k)) (ap (λ (n : ℕ). outages_from p n (p.count - n)) e ∙ from_none p p.count)
        ∙ none_left (λ (before : List Entry). outage_rows regime_end) longer (suc k) (outages_from p 0 k) in
        rw (good, plans, f) (refl, refl, listed l.stored (sym e ∙ sym (from_length p 0 k)))
