-- Listing a plan is answered and no second answer fits, and its rows stand in the order of refusals. Assumes nothing.
use mathlib.Core.Path.{◌≡◌, refl, sym, ap, ◌∙◌}
use mathlib.Core.Bool.{Bool, true, false, cond, ◌&&◌}
use mathlib.Core.List.{List, []}
use Prim.Native.Nat.{ℕ}
use Rattle.std.specs.Prelude.{Result}
use Rattle.refusals.specs.declared.RefusedAt.{RefusedAt}
use Rattle.refusals.specs.Refusals.{first_applicable}
use Rattle.refusals.specs.Order.{in_turn, in_order_of}
use Rattle.refusals.specs.Answers.{One}
use Rattle.refusals.proofs.Cases.{same_place}
use Rattle.entries.specs.declared.Entry.{Entry}
use Rattle.entries.specs.Row.{good_regime_end, zero_entry}
use Rattle.plan.specs.declared.Plan.{Plan}
use Rattle.plan.specs.declared.listing.Listed.{Listed}
use Rattle.plan.specs.Plan.{outages_of, good_plan}
use Rattle.plan.specs.Calls.{Outcome, through, failed, why_in, outage_in, stands_in, longer, listing, outage_rows, list_rows, list_of, listed_outage, listed_outages, ListGives}
use Rattle.plan.proofs.OneByOne.{which_fails, none_fails}
use Rattle.plan.proofs.Parts.{one_part}

pub only_list : (regime_end : ℕ) (p : Plan) (r s : Result Listed RefusedAt) → ListGives regime_end p r → ListGives regime_end p s → r ≡ s
only_list regime_end p r s g h = same_place (list_of []) r s (g.0 ∙ sym h.0) (g.2 ∙ sym h.2) (g.1 ∙ sym h.1)

-- ---- beside an accepted listing no outage is told, and beside a refused one none is listed
module _ (regime_end : ℕ) (p : Plan) where
  list_why : good_regime_end regime_end ≡ true → good_plan p ≡ true → first_applicable (list_rows regime_end p) ≡ why_in (listing regime_end p)
  list_why g v = rw (g, v) (which_fails (λ (before : List Entry). outage_rows regime_end) longer (outage_rows regime_end zero_entry) (λ n s e. refl) 1 [] (outages_of p))

  none_told : first_applicable (list_rows regime_end p) ≡ 0 → listed_outage regime_end p ≡ 0
  none_told z = by (good_regime_end regime_end) refl (good_plan p) refl
    where
      by : (b : Bool) → good_regime_end regime_end ≡ b → (c : Bool) → good_plan p ≡ c → cond (b && c) (outage_in (listing regime_end p)) 0 ≡ 0
      by false g c v = refl
      by true g false v = refl
      by true g true v = ap outage_in (none_fails (λ (before : List Entry). outage_rows regime_end) longer 1 [] [] (outages_of p) (sym (list_why g v) ∙ z))

  none_listed : (first_applicable (list_rows regime_end p) ≡ 0 → ⊥) → listed_outages regime_end p ≡ []
  none_listed z = by (good_regime_end regime_end) refl (good_plan p) refl (listing regime_end p) refl
    where
      by : (b : Bool) → good_regime_end regime_end ≡ b → (c : Bool) → good_plan p ≡ c → (o : Outcome (List Entry)) → listing regime_end p ≡ o → cond (b && c) (stands_in [] o) [] ≡ []
      by false g c v o e = refl
      by true g false v o e = refl
      by true g true v (through s) e = absurd (z (list_why g v ∙ ap why_in e))
      by true g true v (failed why outage) e = refl

pub one_list : (regime_end : ℕ) (p : Plan) → One (ListGives regime_end p)
one_list regime_end p =
    one_part (list_of []) (list_rows regime_end p) (list_of (listed_outages regime_end p)) (listed_outage regime_end p)
    (none_told regime_end p) (λ z. ap list_of (none_listed regime_end p z))

pub list_in_turn : (regime_end : ℕ) (p : Plan) → in_order_of in_turn (list_rows regime_end p) ≡ true
list_in_turn regime_end p = refl

-- and so do the rows of one outage
pub outage_in_turn : (regime_end : ℕ) (e : Entry) → in_order_of in_turn (outage_rows regime_end e) ≡ true
outage_in_turn regime_end e = refl
