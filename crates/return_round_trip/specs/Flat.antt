-- Rules 10.1 and 10.2 once more and flat: the fields of a year's return in order, each by its bytes. No contract is stated
-- by these definitions; a theorem says that they give what the format does.
use Rattle.std.specs.Prelude.{Bool, true, false, cond, not, ◌&&◌, ◌||◌, List, [], ◌∷◌, ◌++◌, map, ◌≡◌, ℕ, ◌≤◌, leb, ltb, eqb, ℤ, nat_abs, take}
use Rattle.std.specs.Int.{w64}
use Rattle.std.proofs.Common.{of_z}
use Rattle.lists.specs.Lists.{all, any, pairwise}
use Rattle.entries.specs.declared.Entry.{Entry}
use Rattle.year.specs.declared.Line.{Line}
use Rattle.year.specs.declared.Year.{Year}
use Rattle.codec.specs.Numbers.{bytes_of}

-- ---- rule 10.1: tag, length and value of each field, byte by byte
-- 05: the partial-year factors
unfoldable pub factors_field : ℕ → ℕ → List ℕ
factors_field pyc pyf = 5 ∷ 0 ∷ 4 ∷ (bytes_of 2 pyc ++ bytes_of 2 pyf)

-- 06: a line
unfoldable pub line_field : Line → List ℕ
line_field l = 6 ∷ 0 ∷ 10 ∷ (bytes_of 1 l.kind ++ (bytes_of 1 l.currency ++ bytes_of 8 (of_z w64 l.amount)))

-- 07: an outage, and its cause where that is not 1
unfoldable pub outage_field : Entry → List ℕ
outage_field e =
    cond (eqb e.cause 1) (7 ∷ 0 ∷ 10 ∷ (bytes_of 4 e.start ++ (bytes_of 4 e.end ++ bytes_of 2 e.mw)))
    (7 ∷ 0 ∷ 11 ∷ (bytes_of 4 e.start ++ (bytes_of 4 e.end ++ (bytes_of 2 e.mw ++ bytes_of 1 e.cause))))

-- 08: the mark
unfoldable pub mark_field : List ℕ
mark_field = 8 ∷ 0 ∷ 1 ∷ 1 ∷ []

-- 09: the within-period adjustment
unfoldable pub wpa_field : ℤ → List ℕ
wpa_field w = 9 ∷ 0 ∷ 8 ∷ bytes_of 8 (of_z w64 w)

-- a field that is there where the test holds
abbrev pub present : Bool → List ℕ → List (List ℕ)
present test field = cond test (field ∷ []) []

-- rule 10.2: whether a year's return leaves its factors out: in year 1 where both are 9,178, in year 25 never, in the others where
-- both are 10,000
abbrev pub both_are : ℕ → Year → Bool
both_are factor y = eqb y.pyc factor && eqb y.pyf factor

abbrev pub leaves_factors : Year → Bool
leaves_factors y = cond (eqb y.number 1) (both_are 9178 y) (cond (eqb y.number 25) false (both_are 10000 y))

-- rule 10.2: the fields that are left out for one value, and the lines and outages in their order
unfoldable pub fields_of : Year → List (List ℕ)
fields_of y =
    (1 ∷ 0 ∷ 1 ∷ bytes_of 1 y.number)
    ∷ (2 ∷ 0 ∷ 4 ∷ bytes_of 4 y.pppi)
    ∷ (3 ∷ 0 ∷ 4 ∷ bytes_of 4 y.rate)
    ∷ (4 ∷ 0 ∷ 2 ∷ bytes_of 2 y.aic)
    ∷ (present (not (leaves_factors y)) (factors_field y.pyc y.pyf)
    ++ (map line_field (take y.line_count y.lines)
    ++ (map outage_field (take y.log.count y.log.entries)
    ++ (present y.exceptional mark_field
    ++ present (not (eqb (nat_abs y.wpa) 0)) (wpa_field y.wpa)))))

-- ---- rule 10.1: in which order fields stand
-- the first byte of a field
abbrev pub tag_of : List ℕ → ℕ
tag_of [] = 0
tag_of (t ∷ rest) = t

-- a field of the first tag may stand before one of the second
unfoldable pub may_precede : ℕ → ℕ → Bool
may_precede s t = ltb s t || (eqb s t && (eqb s 6 || eqb s 7))

pub record Ordered (fields : List (List ℕ)) : Type 0 where
  pub ascend : pairwise may_precede (map tag_of fields) ≡ true
  -- 01 to 04 are there
  pub required : take 4 (map tag_of fields) ≡ 1 ∷ 2 ∷ 3 ∷ 4 ∷ []
  -- no tag but those of the table
  pub known : all (λ t. leb t 9) (map tag_of fields) ≡ true

-- rule 10.2: whether field 05 is there
abbrev pub has_factors : List (List ℕ) → Bool
has_factors fields = any (λ t. eqb t 5) (map tag_of fields)

-- which depends on the year and its factors
pub record FactorsWritten (y : Year) (fields : List (List ℕ)) : Type 0 where
  pub first : y.number ≡ 1 → has_factors fields ≡ not (both_are 9178 y)
  pub between : 2 ≤ y.number → y.number ≤ 24 → has_factors fields ≡ not (both_are 10000 y)
  pub last : y.number ≡ 25 → has_factors fields ≡ true

-- rule 10.6: the bytes of the longest valid return, and of the shortest of a year
abbrev pub longest : ℕ
longest = 6477

abbrev pub shortest : ℕ → ℕ
shortest number = cond (eqb number 25) 30 23
