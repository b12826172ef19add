-- The returns of the input, one after the other, and whether their years are those of one period. Assumes nothing.
use mathlib.Core.Path.{◌≡◌, refl, sym, ap, ◌∙◌}
use mathlib.Core.Bool.{Bool, true, false, ◌&&◌}
use mathlib.Core.List.{List, [], ◌∷◌, ◌++◌, map, append_assoc}
use Rattle.std.specs.Prelude.{Option, Some, None, Result, Ok, Err, slice_range}
use Rattle.std.specs.Result.{result_ok}
use Prim.Native.Nat.{ℕ, suc, ◌+◌, ◌-◌, ◌≤◌, ◌<◌}
use native.Mathlib.Omega.{arith}
use borrow.Author.Tests.{le-leb, lt-leb, leb-true}
use lib.Dec.{leb}
use lib.ListN.{length, take, drop, set, length-append, length-drop, drop_of_length-le}
use lib.Seq.{drop-drop, take_all}
use Rattle.lists.specs.Lists.{all, padded}
use Rattle.lists.proofs.Tests.{and_left, and_right, and_made}
use Rattle.lists.proofs.Places.{drop_next}
use Rattle.lists.proofs.Padded.{padded_more}
use Rattle.refusals.specs.declared.RefusedAt.{RefusedAt}
use Rattle.refusals.specs.Refusals.{answer_number, why_alone, given_or, first_applicable, accepted}
use Rattle.refusals.proofs.Laws.{refused_not, done_accepted}
use Rattle.year.specs.declared.Year.{Year}
use Rattle.year.specs.Year.{fresh_year}
use Rattle.balances.specs.Balance.{period_years}
use Rattle.assessment.specs.Period.{one_period}
use Rattle.codec.specs.Format.{when, map_o, bind_o}
use Rattle.codec.specs.Leaves.{number_at}
use Rattle.codec.proofs.Leaves.{number_there}
use Rattle.return_format.specs.Return.{read_rows, read_year}
use Rattle.return_reading.specs.Reading.{ReturnGives}
use Rattle.workbook_input.specs.declared.returns.Next.{Next}
use Rattle.workbook_input.specs.Input.{day_bytes, next_length, next_uncut, next_return, behind_next, returns_in, is_return, years_of, input_years}
use Rattle.workbook_input.specs.Steps.{next_good, next_of}

-- ---- the return that comes next
-- it is there, or not
pub record NextIs (bs : List ℕ) (next : Next) : Type 0 where
  pub good : next_good bs ≡ true
  pub year : next.year ≡ read_year (next_return bs)
  pub bytes : next.bytes ≡ 2 + next_length bs

module _ (bs : List ℕ) where
  abbrev made : Next
  made = record { year = read_year (next_return bs); bytes = 2 + next_length bs }

  next_is : (next : Next) → Some next ≡ next_of bs → NextIs bs next
  next_is next e = by (next_good bs) refl e
    where
      by : (t : Bool) → next_good bs ≡ t → Some next ≡ when t (Some made) → NextIs bs next
      by true g f =
          let same : next ≡ made = cc in
          record { good = g; year = ap (λ (n : Next). n.year) same; bytes = ap (λ (n : Next). n.bytes) same }
      by false g f = absurd (let z : ◌≡◌ {A = ℕ} 0 1 = cc in omega arith)

  next_none : None ≡ next_of bs → next_good bs ≡ false
  next_none e = by (next_good bs) refl e
    where
      by : (t : Bool) → next_good bs ≡ t → ◌≡◌ {A = Option Next} None (when t (Some made)) → next_good bs ≡ false
      by true g f = absurd (let z : ◌≡◌ {A = ℕ} 0 1 = cc in omega arith)
      by false g f = g

  pub not_next : next_good bs ≡ false → None ≡ next_of bs
  not_next f = rw f

  -- its length is cut
  pub no_length : length bs < 2 → None ≡ next_of bs
  no_length h = not_next (rw (lt-leb 2 (length bs) h))

  module _ (h : 2 ≤ length bs) (rest : List ℕ) (behind : rest ≡ slice_range bs 2 (length bs)) (n : ℕ) (e : n ≡ number_at 2 bs) where
    rest_is : rest ≡ drop 2 bs
    rest_is = behind ∙ take_all (length bs - 2) (drop 2 bs) (omega (arith, length-drop 2 bs))

    length_is : n ≡ next_length bs
    length_is = e ∙ number_there 2 bs (omega arith) h

    -- it is cut itself
    pub cut : length rest < n → None ≡ next_of bs
    cut l = not_next (rw (le-leb 2 (length bs) h, lt-leb (next_length bs) (length (drop 2 bs)) (omega (arith, length_is, ap length rest_is))))

    module _ (l : n ≤ length rest) (own : List ℕ) (first : own ≡ slice_range rest 0 n) (r : Result Year RefusedAt) (g : ReturnGives own r) where
      uncut : next_uncut bs ≡ true
      uncut = and_made (le-leb 2 (length bs) h) (le-leb (next_length bs) (length (drop 2 bs)) (omega (arith, length_is, ap length rest_is)))

      return_is : own ≡ next_return bs
      return_is = let all : n - 0 ≡ n = omega arith in first ∙ ap (λ (m : ℕ). take m rest) all ∙ ap (take n) rest_is ∙ ap (λ (m : ℕ). take m (drop 2 bs)) length_is

      good_is : next_good bs ≡ accepted (read_rows own)
      good_is = ap (λ (b : Bool). b && is_return (next_return bs)) uncut ∙ ap is_return (sym return_is)

      -- reading refuses it, or accepts it
      pub no_return : None ≡ result_ok r → None ≡ next_of bs
      no_return f = by r g.0 f
        where
          by : (r : Result Year RefusedAt) → answer_number (why_alone r) ≡ first_applicable (read_rows own) → None ≡ result_ok r → None ≡ next_of bs
          by (Ok year) n f = absurd (let z : ◌≡◌ {A = ℕ} 0 1 = cc in omega arith)
          by (Err why) n f = not_next (good_is ∙ refused_not {A = Year} (Err why.why) (read_rows own) n why.why refl)

      pub is_next : (year : Year) → Some year ≡ result_ok r → Some (record { year = year; bytes = 2 + n }) ≡ next_of bs
      is_next year f = by r g.0 g.2 f
        where
          by : (r : Result Year RefusedAt) → answer_number (why_alone r) ≡ first_applicable (read_rows own) → given_or fresh_year (why_alone r) ≡ read_year own → Some year ≡ result_ok r
              → Some (record { year = year; bytes = 2 + n }) ≡ next_of bs
          by (Ok y) m i f =
              let good : next_good bs ≡ true = good_is ∙ done_accepted {A = Year} (Ok y) (read_rows own) m y refl in
              let is : year ≡ read_year (next_return bs) = (let k : year ≡ y = cc in k ∙ i ∙ ap read_year return_is) in
              let same : ◌≡◌ {A = Next} (record { year = year; bytes = 2 + n }) made = λ j. record { year = is j; bytes = 2 + length_is j } in
              ap Some same ∙ sym (ap (λ (t : Bool). when t (Some made)) good)
          by (Err why) m i f = absurd (let z : ◌≡◌ {A = ℕ} 0 1 = cc in omega arith)

-- ---- so many returns, each of which reading accepts, as years
abbrev read_in : ℕ → List ℕ → Option (List Year)
read_in n bs = bind_o (returns_in n bs) (λ returns. when (all is_return returns) (Some (map read_year returns)))

module _ (n : ℕ) (bs : List ℕ) where
  read_next : next_good bs ≡ true → read_in (suc n) bs ≡ map_o (λ years. read_year (next_return bs) ∷ years) (read_in n (behind_next bs))
  unfolding returns_in
  read_next g =
      rw (and_left (next_uncut bs) (is_return (next_return bs)) g) (by (returns_in n (behind_next bs)))
    where
      each : (t : Bool) (returns : List (List ℕ)) → when t (Some (map read_year (next_return bs ∷ returns))) ≡ map_o (λ years. read_year (next_return bs) ∷ years) (when t (Some (map read_year returns)))
      each true returns = refl
      each false returns = refl

      by : (o : Option (List (List ℕ)))
          → bind_o (map_o (λ rest. next_return bs ∷ rest) o) (λ returns. when (all is_return returns) (Some (map read_year returns)))
          ≡ map_o (λ years. read_year (next_return bs) ∷ years) (bind_o o (λ returns. when (all is_return returns) (Some (map read_year returns))))
      by None = refl
      by (Some returns) = rw (and_right (next_uncut bs) (is_return (next_return bs)) g) (each (all is_return returns) returns)

  read_stop : next_good bs ≡ false → read_in (suc n) bs ≡ None
  unfolding returns_in
  read_stop g = by (next_uncut bs) refl
    where
      rest : (o : Option (List (List ℕ))) → is_return (next_return bs) ≡ false → bind_o (map_o (λ rest. next_return bs ∷ rest) o) (λ returns. when (all is_return returns) (Some (map read_year returns))) ≡ None
      rest None f = refl
      rest (Some returns) f = rw f refl

      by : (t : Bool) → next_uncut bs ≡ t → bind_o (when t (map_o (λ rest. next_return bs ∷ rest) (returns_in n (behind_next bs)))) (λ returns. when (all is_return returns) (Some (map read_year returns))) ≡ None
      by false e = refl
      by true e = rest (returns_in n (behind_next bs)) (sym (ap (λ (b : Bool). b && is_return (next_return bs)) e) ∙ g)

-- nothing may be left behind the last
module _ (s : List ℕ) (at : ℕ) where
  pub left_over : at < length s → read_in 0 (drop at s) ≡ None
  unfolding returns_in
  left_over h = rw (drop_next 0 s at h)

  pub none_left : length s ≤ at → read_in 0 (drop at s) ≡ Some []
  unfolding returns_in
  none_left h = rw (drop_of_length-le s {i = at} h)

-- the years of the input, by the returns that were read
period_of : Option (List Year) → Option (List Year)
period_of o = bind_o o (λ years. when (one_period years) (Some years))

input_is : (bs : List ℕ) → day_bytes ≤ length bs → input_years bs ≡ period_of (read_in period_years (drop day_bytes bs))
unfolding input_years period_of
input_is bs h = rw (le-leb day_bytes (length bs) h) (by (returns_in period_years (drop day_bytes bs)))
  where
    each : (t : Bool) (years : List Year) → when (t && one_period years) (Some years) ≡ bind_o (when t (Some years)) (λ years. when (one_period years) (Some years))
    each true years = refl
    each false years = refl

    by : (o : Option (List (List ℕ))) → bind_o o years_of ≡ bind_o (bind_o o (λ returns. when (all is_return returns) (Some (map read_year returns)))) (λ years. when (one_period years) (Some years))
    by None = refl
    by (Some returns) = each (all is_return returns) (map read_year returns)

pub no_days : (bs : List ℕ) → length bs < day_bytes → None ≡ input_years bs
unfolding input_years
no_days bs h = rw (lt-leb day_bytes (length bs) h)

-- ---- return by return: the first k are read, and the others stand from a place on
pub record Going (s : List ℕ) (years : List Year) (at k : ℕ) : Type 0 where
  pub read : List Year
  pub counted : length read ≡ k
  pub few : k ≤ period_years
  pub inside : at ≤ length s
  pub stored : years ≡ padded period_years fresh_year read
  pub ahead : read_in period_years (drop day_bytes s) ≡ map_o (λ more. read ++ more) (read_in (period_years - k) (drop at s))

same_option : (o : Option (List Year)) → o ≡ map_o (λ more. [] ++ more) o
same_option None = refl
same_option (Some years) = refl

mapped_twice : (front : List Year) (y : Year) (o : Option (List Year)) → map_o (λ more. front ++ more) (map_o (λ more. y ∷ more) o) ≡ map_o (λ more. (front ++ (y ∷ [])) ++ more) o
mapped_twice front y None = refl
mapped_twice front y (Some years) = ap Some (sym (append_assoc front (y ∷ []) years))

pub none_read : (s : List ℕ) (years : List Year) → day_bytes ≤ length s → years ≡ padded period_years fresh_year [] → Going s years day_bytes 0
none_read s years h e = record {
  read = [];
  counted = refl;
  few = omega arith;
  inside = h;
  stored = e;
  ahead = same_option (read_in period_years (drop day_bytes s));
}

module _ {s : List ℕ} {years : List Year} {at k : ℕ} (g : Going s years at k) where
  module _ (found : Option Next) (e : found ≡ next_of (take (length s - at) (drop at s))) (h : k < period_years) where
    there : found ≡ next_of (drop at s)
    there = e ∙ ap next_of (take_all (length s - at) (drop at s) (omega (arith, length-drop at s)))

    pub one_read : (r : Next) → found ≡ Some r → Going s (set years k r.year) (at + r.bytes) (k + 1)
    one_read r t =
        let bs = drop at s in
        let n = next_is bs r (sym t ∙ there) in
        let uncut = and_left (next_uncut bs) (is_return (next_return bs)) n.good in
        let two : 2 ≤ length bs = leb-true 2 (length bs) (and_left (leb 2 (length bs)) _ uncut) in
        let fits : next_length bs ≤ length (drop 2 bs) = leb-true (next_length bs) (length (drop 2 bs)) (and_right (leb 2 (length bs)) _ uncut) in
        let left : period_years - k ≡ suc (period_years - (k + 1)) = omega arith in
        let next : behind_next bs ≡ drop (at + r.bytes) s = drop-drop (next_length bs) 2 bs ∙ drop-drop (2 + next_length bs) at s ∙ ap (λ (m : ℕ). drop (at + m) s) (sym n.bytes) in
        record {
          read = g.read ++ (read_year (next_return bs) ∷ []);
          counted = length-append g.read (read_year (next_return bs) ∷ []) ∙ omega (arith, g.counted);
          few = omega arith;
          inside = omega (arith, n.bytes, length-drop 2 bs, length-drop at s, g.inside);
          stored = ap (λ (l : List Year). set l k r.year) g.stored ∙ ap (set (padded period_years fresh_year g.read) k) n.year
              ∙ padded_more period_years fresh_year g.read (read_year (next_return bs)) k g.counted h;
          ahead = g.ahead
              ∙ ap (λ (m : ℕ). map_o (λ more. g.read ++ more) (read_in m bs)) left
              ∙ ap (map_o (λ more. g.read ++ more)) (read_next (period_years - (k + 1)) bs n.good)
              ∙ mapped_twice g.read (read_year (next_return bs)) (read_in (period_years - (k + 1)) (behind_next bs))
              ∙ ap (λ (l : List ℕ). map_o (λ more. (g.read ++ (read_year (next_return bs) ∷ [])) ++ more) (read_in (period_years - (k + 1)) l)) next;
        }

    -- one that is cut or no return
    pub one_refused : found ≡ None → day_bytes ≤ length s → None ≡ input_years s
    unfolding period_of
    one_refused f d =
        let left : period_years - k ≡ suc (period_years - (k + 1)) = omega arith in
        sym (input_is s d
        ∙ ap period_of (g.ahead
        ∙ ap (λ (m : ℕ). map_o (λ more. g.read ++ more) (read_in m (drop at s))) left
        ∙ ap (map_o (λ more. g.read ++ more)) (read_stop (period_years - (k + 1)) (drop at s) (next_none (drop at s) (sym f ∙ there)))))

  module _ (h : period_years ≤ k) (d : day_bytes ≤ length s) where
    all_read : read_in period_years (drop day_bytes s) ≡ map_o (λ more. g.read ++ more) (read_in 0 (drop at s))
    all_read = let e : period_years - k ≡ 0 = omega arith in g.ahead ∙ ap (λ (m : ℕ). map_o (λ more. g.read ++ more) (read_in m (drop at s))) e

    -- something follows the last
    pub followed : at < length s → None ≡ input_years s
    unfolding period_of
    followed l = sym (input_is s d ∙ ap period_of (all_read ∙ ap (map_o (λ more. g.read ++ more)) (left_over s at l)))

    -- nothing does
    stored_all : g.read ++ [] ≡ years
    stored_all =
        let z : period_years - length g.read ≡ 0 = omega (arith, g.counted, g.few) in
        sym (g.stored ∙ rw z refl)

    pub alone : length s ≤ at → when (one_period years) (Some years) ≡ input_years s
    unfolding period_of
    alone l = sym (input_is s d ∙ ap period_of (all_read ∙ ap (map_o (λ more. g.read ++ more)) (none_left s at l) ∙ ap Some stored_all))
