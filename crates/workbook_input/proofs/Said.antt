-- What an input that is not refused by 13 says: where its returns stand, that their years are valid, and how many bytes it has at most.
-- Assumes nothing.
use mathlib.Core.Path.{◌≡◌, refl, sym, ap, ◌∙◌}
use mathlib.Core.Logic.{◌⊎◌, inl, inr}
use mathlib.Core.Bool.{Bool, true, false, true≢false, ◌&&◌}
use mathlib.Core.List.{List, [], ◌∷◌, map}
use Rattle.std.specs.Prelude.{Option, Some, None}
use Prim.Native.Nat.{ℕ, zero, suc, ◌*◌, ◌≤◌, ◌<◌}
use native.Mathlib.Omega.{arith}
use borrow.Author.Tests.{eqb-true, leb-true}
use lib.Dec.{leb}
use lib.ListN.{length, drop, length-drop}
use lib.Seq.{length-take-le}
use Rattle.lists.specs.Lists.{all}
use Rattle.lists.proofs.Tests.{and_left, and_right, and_made, le_or_lt}
use Rattle.refusals.specs.Refusals.{first_applicable}
use Rattle.year.specs.declared.Year.{Year}
use Rattle.balances.specs.Balance.{period_years}
use Rattle.assessment.specs.Period.{one_period}
use Rattle.codec.specs.Theorems.{Bytes}
use Rattle.codec.specs.Format.{when, map_o, bind_o}
use Rattle.codec.proofs.Values.{bytes_drop, bytes_take}
use Rattle.codec.proofs.Message.{longer}
use Rattle.return_format.specs.Form.{form}
use Rattle.return_format.specs.Return.{most_bytes, year_of, read_rows, read_year, valid_year}
use Rattle.return_round_trip.proofs.RoundTrip.{read_valid}
use Rattle.workbook_input.specs.Input.{day_bytes, next_length, next_uncut, next_return, behind_next, returns_in, is_return, years_of, input_years}

-- ---- the returns of an input, and their years
pub record Said (bs : List ℕ) (years : List Year) : Type 0 where
  pub days : day_bytes ≤ length bs
  pub returns : List (List ℕ)
  pub there : returns_in period_years (drop day_bytes bs) ≡ Some returns
  pub accepted : all is_return returns ≡ true
  pub are : map read_year returns ≡ years
  pub period : one_period years ≡ true

pub said : (bs : List ℕ) (years : List Year) → input_years bs ≡ Some years → Said bs years
unfolding input_years
said bs years e = by (leb day_bytes (length bs)) refl (returns_in period_years (drop day_bytes bs)) refl e
  where
    each : leb day_bytes (length bs) ≡ true → (returns : List (List ℕ)) → returns_in period_years (drop day_bytes bs) ≡ Some returns
        → (t : Bool) → (all is_return returns && one_period (map read_year returns)) ≡ t → when t (Some (map read_year returns)) ≡ Some years → Said bs years
    each h returns o true f e =
        let are : map read_year returns ≡ years = cc in
        record {
          days = leb-true day_bytes (length bs) h;
          returns = returns;
          there = o;
          accepted = and_left (all is_return returns) (one_period (map read_year returns)) f;
          are = are;
          period = ap one_period (sym are) ∙ and_right (all is_return returns) (one_period (map read_year returns)) f;
        }
    each h returns o false f e = absurd (let z : ◌≡◌ {A = ℕ} 0 1 = cc in omega arith)

    by : (t : Bool) → leb day_bytes (length bs) ≡ t → (o : Option (List (List ℕ))) → returns_in period_years (drop day_bytes bs) ≡ o → bind_o (when t o) years_of ≡ Some years → Said bs years
    by true h (Some returns) o e = each h returns o (all is_return returns && one_period (map read_year returns)) refl e
    by true h None o e = absurd (let z : ◌≡◌ {A = ℕ} 0 1 = cc in omega arith)
    by false h r o e = absurd (let z : ◌≡◌ {A = ℕ} 0 1 = cc in omega arith)

-- ---- what holds of the returns that are there
abbrev Where : {A : Type 0} → (A → Type 0) → Option A → Type 0
Where P None = Unit {0}
Where P (Some a) = P a

where_some : {A : Type 0} (P : A → Type 0) (o : Option A) (a : A) → o ≡ Some a → Where P o → P a
where_some P o a e w = rw e at w

-- each is bytes
abbrev AllBytes : List (List ℕ) → Type 0
AllBytes [] = Unit {0}
AllBytes (r ∷ rs) = Bytes r × AllBytes rs

returns_bytes : (n : ℕ) (bs : List ℕ) → Bytes bs → Where AllBytes (returns_in n bs)
unfolding returns_in
returns_bytes zero [] b = tt
returns_bytes zero (x ∷ bs) b = tt
returns_bytes (suc n) bs b = by (next_uncut bs) (returns_in n (behind_next bs)) (returns_bytes n (behind_next bs) (bytes_drop (next_length bs) (drop 2 bs) (bytes_drop 2 bs b)))
  where
    by : (t : Bool) (o : Option (List (List ℕ))) → Where AllBytes o → Where AllBytes (when t (map_o (λ rest. next_return bs ∷ rest) o))
    by false o w = tt
    by true None w = tt
    by true (Some rs) w = (bytes_take (next_length bs) (drop 2 bs) (bytes_drop 2 bs b), w)

all_valid : (rs : List (List ℕ)) → AllBytes rs → all is_return rs ≡ true → all valid_year (map read_year rs) ≡ true
all_valid [] b a = refl
all_valid (r ∷ rs) b a =
    and_made (read_valid r b.0 (eqb-true (first_applicable (read_rows r)) 0 (and_left (is_return r) (all is_return rs) a)))
    (all_valid rs b.1 (and_right (is_return r) (all is_return rs) a))

pub years_valid : (bs : List ℕ) → Bytes bs → (years : List Year) → input_years bs ≡ Some years → all valid_year years ≡ true
years_valid bs b years e =
    let s = said bs years e in
    let w = where_some AllBytes (returns_in period_years (drop day_bytes bs)) s.returns s.there (returns_bytes period_years (drop day_bytes bs) (bytes_drop day_bytes bs b)) in
    ap (all valid_year) (sym s.are) ∙ all_valid s.returns w s.accepted

-- ---- rule 20.4: how many bytes there are at most
-- rule 10.4: no return has more than 8,192
return_most : (bs : List ℕ) → is_return bs ≡ true → length bs ≤ most_bytes
return_most bs a = by (le_or_lt (length bs) most_bytes)
  where
    by : (length bs ≤ most_bytes) ⊎ (most_bytes < length bs) → length bs ≤ most_bytes
    by (inl h) = h
    by (inr h) = absurd (true≢false (sym a ∙ rw (longer form year_of most_bytes bs h) refl))

returns_most : (n : ℕ) (bs : List ℕ) → Where (λ (rs : List (List ℕ)). all is_return rs ≡ true → length bs ≤ n * 8194) (returns_in n bs)
unfolding returns_in
returns_most zero [] = λ a. omega arith
returns_most zero (x ∷ bs) = tt
returns_most (suc n) bs = by (next_uncut bs) refl (returns_in n (behind_next bs)) (returns_most n (behind_next bs))
  where
    by : (t : Bool) → next_uncut bs ≡ t → (o : Option (List (List ℕ))) → Where (λ (rs : List (List ℕ)). all is_return rs ≡ true → length (behind_next bs) ≤ n * 8194) o
        → Where (λ (rs : List (List ℕ)). all is_return rs ≡ true → length bs ≤ suc n * 8194) (when t (map_o (λ rest. next_return bs ∷ rest) o))
    by false u o w = tt
    by true u None w = tt
    by true u (Some rs) w = λ a.
        let two : 2 ≤ length bs = leb-true 2 (length bs) (and_left (leb 2 (length bs)) (leb (next_length bs) (length (drop 2 bs))) u) in
        let fits : next_length bs ≤ length (drop 2 bs) = leb-true (next_length bs) (length (drop 2 bs)) (and_right (leb 2 (length bs)) (leb (next_length bs) (length (drop 2 bs))) u) in
        let most = return_most (next_return bs) (and_left (is_return (next_return bs)) (all is_return rs) a) in
        let rest = w (and_right (is_return (next_return bs)) (all is_return rs) a) in
        omega (arith, length-take-le (next_length bs) (drop 2 bs) fits, length-drop 2 bs, length-drop (next_length bs) (drop 2 bs))

pub years_most : (bs : List ℕ) (years : List Year) → input_years bs ≡ Some years → length bs ≤ 40978
years_most bs years e =
    let s = said bs years e in
    let w = where_some (λ (rs : List (List ℕ)). all is_return rs ≡ true → length (drop day_bytes bs) ≤ period_years * 8194) (returns_in period_years (drop day_bytes bs)) s.returns s.there (returns_most period_years (drop day_bytes bs)) in
    omega (arith, w s.accepted, length-drop day_bytes bs, s.days)
