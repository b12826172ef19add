-- The steps of the reading, put together: each says what the whole reading is once it is known how far the reader came.
-- Assumes nothing.
use mathlib.Core.Path.{◌≡◌, refl, sym, ap, ◌∙◌}
use mathlib.Core.Bool.{Bool, true, false, cond}
use mathlib.Core.List.{List}
use Rattle.std.specs.Prelude.{Some, None}
use Prim.Native.Nat.{ℕ, ◌<◌, ◌≤◌}
use native.Mathlib.Omega.{arith}
use borrow.Author.Tests.{le-leb}
use lib.Dec.{eqb}
use lib.ListN.{length, drop}
use Rattle.lists.proofs.Tests.{and_made}
use Rattle.std.specs.Prelude.{Ok, Err}
use Rattle.refusals.specs.declared.RefusedAt.{RefusedAt}
use Rattle.year.specs.declared.Year.{Year}
use Rattle.return_format.specs.declared.Factors.{Factors}
use Rattle.return_format.specs.Form.{year_value, pppi_value, rate_value, aic_value, Parts, required, form, factors, tail, body}
use Rattle.return_format.specs.Return.{most_bytes, year_of, whole, refused, reading_of, refused_at}
use Rattle.return_reading.specs.declared.Head.{Head}
use Rattle.return_reading.specs.declared.Tail.{Tail}
use Rattle.return_reading.specs.declared.fields.Read.{Read}
use Rattle.return_reading.specs.Steps.{HeadRead, RequiredRead, FactorsRead, TailRead}
use Rattle.return_reading.specs.Reading.{ReturnGives}
use Rattle.codec.specs.Format.{field, tagged, Codec, malformed, one, both, ReadAt, StoppedAt}
use Rattle.codec.proofs.Positions.{field_range, one_some}
use Rattle.codec.proofs.Message.{longer}
use Rattle.codec.proofs.Steps as Steps
use Rattle.codec.proofs.Steps.{both_read, first_stopped, then_stopped, one_none}

-- ---- the four required fields
abbrev year : Codec ℕ
year = one (tagged 1 year_value)

abbrev pppi : Codec ℕ
pppi = one (tagged 2 pppi_value)

abbrev rate : Codec ℕ
rate = one (tagged 3 rate_value)

abbrev aic : Codec ℕ
aic = one (tagged 4 aic_value)

abbrev from_rate : Codec (ℕ × ℕ)
from_rate = both rate (λ r. aic)

abbrev from_pppi : Codec (ℕ × (ℕ × ℕ))
from_pppi = both pppi (λ p. from_rate)

module _ (s : List ℕ) where
  pub no_year : field 1 year_value s ≡ None → RequiredRead s (Err (refused_at 0))
  no_year e = (refl, first_stopped year (λ n. from_pppi) (one_none 1 year_value s 0 (omega arith) e))

  module _ {y : ℕ} (ey : field 1 year_value s ≡ Some y) where
    year_at : ReadAt year s 0 y 4
    year_at = one_some 1 year_value s 0 y 4 (omega arith) refl ey

    pub no_pppi : field 2 pppi_value (drop 4 s) ≡ None → RequiredRead s (Err (refused_at 4))
    no_pppi e = (refl, then_stopped year (λ n. from_pppi) year_at (first_stopped pppi (λ p. from_rate) (one_none 2 pppi_value s 4 year_at.inside e)))

    module _ {p : ℕ} (ep : field 2 pppi_value (drop 4 s) ≡ Some p) where
      pppi_at : ReadAt pppi s 4 p 11
      pppi_at = one_some 2 pppi_value s 4 p 11 year_at.inside refl ep

      pub no_rate : field 3 rate_value (drop 11 s) ≡ None → RequiredRead s (Err (refused_at 11))
      no_rate e = (
        refl,
        then_stopped year (λ n. from_pppi) year_at
            (then_stopped pppi (λ p. from_rate) pppi_at (first_stopped rate (λ r. aic) (one_none 3 rate_value s 11 pppi_at.inside e))),
      )

      module _ {r : ℕ} (er : field 3 rate_value (drop 11 s) ≡ Some r) where
        rate_at : ReadAt rate s 11 r 18
        rate_at = one_some 3 rate_value s 11 r 18 pppi_at.inside refl er

        pub no_aic : field 4 aic_value (drop 18 s) ≡ None → RequiredRead s (Err (refused_at 18))
        no_aic e = (
          refl,
          then_stopped year (λ n. from_pppi) year_at
              (then_stopped pppi (λ p. from_rate) pppi_at (then_stopped rate (λ r. aic) rate_at (one_none 4 aic_value s 18 rate_at.inside e))),
        )

        pub all_four : {a : ℕ} → field 4 aic_value (drop 18 s) ≡ Some a → RequiredRead s (Ok (record { number = y; pppi = p; rate = r; aic = a }))
        all_four {a} e =
            let k = field_range 1 1 1 25 s y ey in
            record {
              at = both_read year (λ n. from_pppi) year_at
                  (both_read pppi (λ p. from_rate) pppi_at (both_read rate (λ r. aic) rate_at (one_some 4 aic_value s 18 a 23 rate_at.inside refl e)));
              year = and_made (le-leb 1 y k.0) (le-leb y 25 k.1);
            }

-- ---- the whole return
-- the reading is refused at a place
pub record Refuses (s : List ℕ) (place : ℕ) : Type 0 where
  pub why : ℕ
  pub is : reading_of s ≡ refused why place

-- the year as the code puts it together
abbrev made : Head → Factors → Tail → Year
made h f b = record {
  number = h.number;
  pppi = h.pppi;
  rate = h.rate;
  aic = h.aic;
  pyc = f.pyc;
  pyf = f.pyf;
  lines = b.lines.lines;
  line_count = b.lines.count;
  exceptional = b.exceptional;
  wpa = b.wpa;
  log = b.log;
}

module _ (s : List ℕ) where
  pub too_long : most_bytes < length s → Refuses s most_bytes
  too_long h = record { why = malformed; is = longer form year_of most_bytes s h }

  module _ (few : length s ≤ most_bytes) where
    -- a required field is not there
    pub not_there : (place : ℕ) → StoppedAt required s 0 malformed place → Refuses s place
    unfolding form
    not_there place h = record { why = malformed; is = Steps.stopped_whole form year_of most_bytes s few (first_stopped required (λ h. body h.0) h) }

    module _ {h : Head} (hr : HeadRead s h) where
      -- the factors are required and not there
      pub no_factors : FactorsRead h.number s 23 None → Refuses s 23
      unfolding form
      no_factors k =
          record {
            why = malformed;
            is = Steps.stopped_whole form year_of most_bytes s few
                (then_stopped required (λ h. body h.0) hr.at (first_stopped (factors h.number) (λ f. tail h.number) k));
          }

    module _ {h : Head} (hr : HeadRead s h) {f : Read Factors} (fr : FactorsRead h.number s 23 (Some f)) {b : Read Tail} (br : TailRead h.number s f.next b) where
      abbrev parts : Parts
      parts = (
        (h.number, (h.pppi, (h.rate, h.aic))),
        ((f.value.pyc, f.value.pyf), (br.read, (br.logged, (cond b.value.exceptional 1 0, b.value.wpa)))),
      )

      all_read : ReadAt form s 0 parts b.next
      unfolding form
      all_read = both_read required (λ h. body h.0) hr.at (both_read (factors h.number) (λ f. tail h.number) fr br.at)

      -- bytes are left over
      pub left_over : b.next < length s → Refuses s b.next
      left_over k = record { why = malformed; is = Steps.left_over form year_of most_bytes s few all_read k }

      year_read : made h f.value b.value ≡ year_of parts
      year_read = rw (br.lined, br.counted, br.stored, marked b.value.exceptional)
        where
          marked : (e : Bool) → eqb (cond e 1 0) 1 ≡ e
          marked true = refl
          marked false = refl

      -- none are
      pub none_left : length s ≤ b.next → reading_of s ≡ whole (made h f.value b.value)
      none_left k = Steps.none_left form year_of most_bytes s few all_read k ∙ ap whole (sym year_read)

  -- ---- what the call ensures
  pub gives_refused : (place : ℕ) (r : RefusedAt) → r ≡ refused_at place → Refuses s place → ReturnGives s (Err r)
  gives_refused place r e f = rw (e, f.is) (refl, refl, refl)

  pub gives_whole : (y : Year) → reading_of s ≡ whole y → ReturnGives s (Ok y)
  gives_whole y f = rw f (refl, refl, refl)
