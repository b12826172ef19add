-- A reading is answered and no second answer fits, and its rows stand in the order of refusals. Assumes nothing.
use mathlib.Core.Path.{◌≡◌, refl, sym, ◌∙◌}
use mathlib.Core.Bool.{true}
use mathlib.Core.List.{List, [], ◌∷◌}
use Prim.Native.Nat.{ℕ}
use Rattle.std.specs.Prelude.{Result, Ok, Err}
use Rattle.refusals.specs.declared.Refusal.TheVariants.{Malformed}
use Rattle.refusals.specs.declared.RefusedAt.{RefusedAt}
use Rattle.refusals.specs.Refusals.{answer_number, first_applicable, given_or, part_number, why_alone}
use Rattle.refusals.specs.Order.{in_turn, in_order_of}
use Rattle.refusals.specs.Answers.{One}
use Rattle.refusals.proofs.Cases.{same_place}
use Rattle.year.specs.declared.Year.{Year}
use Rattle.year.specs.Year.{fresh_year}
use Rattle.codec.specs.Message as Message
use Rattle.return_format.specs.Return.{Reading, reading_of, read_rows, refused_at, is_refused, place_in, year_in}
use Rattle.return_reading.specs.Reading.{ReturnGives}

pub only_read : (bs : List ℕ) (r s : Result Year RefusedAt) → ReturnGives bs r → ReturnGives bs s → r ≡ s
only_read bs r s p q = same_place fresh_year r s (p.0 ∙ sym q.0) (p.2 ∙ sym q.2) (p.1 ∙ sym q.1)

-- a reading as the call gives it
abbrev given : Reading → Result Year RefusedAt
given (Message.whole y) = Ok y
given (Message.refused why place) = Err (refused_at place)

given_meets : (bs : List ℕ) → ReturnGives bs (given (reading_of bs))
given_meets bs = by (reading_of bs)
  where
    by : (x : Reading) → (answer_number (why_alone (given x)) ≡ first_applicable ((Malformed, is_refused x) ∷ [])) × (part_number (given x) ≡ place_in x) × (given_or fresh_year (why_alone (given x)) ≡ year_in x)
    by (Message.whole y) = (refl, refl, refl)
    by (Message.refused why place) = (refl, refl, refl)

pub one_read : (bs : List ℕ) → One (ReturnGives bs)
one_read bs = record { result = given (reading_of bs); meets = given_meets bs; alone = λ other h. only_read bs other (given (reading_of bs)) h (given_meets bs) }

pub read_in_turn : (bs : List ℕ) → in_order_of in_turn (read_rows bs) ≡ true
read_in_turn bs = refl
