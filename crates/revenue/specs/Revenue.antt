-- Assessed revenue: rules 7.4 to 7.6 (SC5 3, 6 to 9, 11, 12; SC7 27).
use Rattle.std.specs.Prelude.{cond, not, ◌||◌, List, [], ◌∷◌, ◌≡◌, ℕ, leb, ltb, eqb, take, Result, ℤ, pos, neg_ℤ, nat_abs, ◌+ℤ◌, ◌-ℤ◌, ◌*ℤ◌}
use Rattle.std.specs.Int.Signed.{lt_z}
use Rattle.refusals.specs.Refusals.{Rows, accepted, first_applicable, answer_number, given_or}
use Rattle.refusals.specs.declared.Refusal.{Refusal}
use Rattle.refusals.specs.declared.Refusal.TheVariants.{BadYear, TooLarge}
use Rattle.money.specs.Rounding.{round_z}
use Rattle.year.specs.declared.Line.{Line}
use Rattle.year.specs.declared.Year.{Year}
use Rattle.year.specs.Year.{good_year}

-- ---- rule 7.5: each euro line by itself (SC5 7, 9, 12)
unfoldable pub pounds_of : ℕ → Line → ℤ
pounds_of rate l = cond (eqb l.currency 0) l.amount (round_z (l.amount *ℤ pos rate) 100000)

-- the sum of the lines of a kind, in pounds
unfoldable pub sum_of_kind : ℕ → ℕ → List Line → ℤ
sum_of_kind kind rate [] = pos 0
sum_of_kind kind rate (l ∷ ls) = cond (eqb l.kind kind) (pounds_of rate l) (pos 0) +ℤ sum_of_kind kind rate ls

-- rule 7.4: a sum that is lifted to 0 where it is below
unfoldable pub at_least_zero : ℤ → ℤ
at_least_zero z = cond (lt_z z (pos 0)) (pos 0) z

-- ---- the licence's terms, by the table of kinds
module _ (rate : ℕ) (lines : List Line) where
  -- capacity allocation
  abbrev pub CAR : ℤ
  CAR = sum_of_kind 1 rate lines

  -- capacity market, lifted as a sum
  abbrev pub CMR : ℤ
  CMR = at_least_zero (sum_of_kind 2 rate lines)

  -- constraint payments, Belgium and GB
  abbrev pub CPB : ℤ
  CPB = sum_of_kind 3 rate lines

  abbrev pub CPGB : ℤ
  CPGB = sum_of_kind 4 rate lines

  -- receipts from insurance
  abbrev pub RI : ℤ
  RI = sum_of_kind 5 rate lines

  -- ancillary services, GB and Belgium in one kind
  abbrev pub ASR : ℤ
  ASR = sum_of_kind 6 rate lines

  -- error accounting, firmness and trip contract costs
  abbrev pub EAC : ℤ
  EAC = sum_of_kind 7 rate lines

  abbrev pub FC : ℤ
  FC = sum_of_kind 8 rate lines

  abbrev pub TCC : ℤ
  TCC = sum_of_kind 9 rate lines

  -- SC5 11: additional revenue
  abbrev pub ADR : ℤ
  ADR = sum_of_kind 10 rate lines

  -- the income adjusting event
  abbrev pub IAT : ℤ
  IAT = sum_of_kind 11 rate lines

  -- SC5 6: gross congestion revenue
  abbrev pub GCR : ℤ
  GCR = CAR +ℤ ASR +ℤ CMR +ℤ RI +ℤ CPGB +ℤ CPB +ℤ ADR

  -- SC5 8: market related costs
  abbrev pub MRC : ℤ
  MRC = EAC +ℤ FC +ℤ TCC

  -- rule 7.6: the total (SC5 3, SC7 27)
  abbrev pub NAR : ℤ
  NAR = GCR -ℤ MRC -ℤ IAT

-- of a year
abbrev pub assessed_revenue : Year → ℤ
assessed_revenue y = NAR y.rate (take y.line_count y.lines)

-- ---- the call
abbrev pub revenue_rows : Year → Rows
revenue_rows y = (BadYear, not (good_year y)) ∷ (TooLarge, not (leb (nat_abs (assessed_revenue y)) 1000000000)) ∷ []

abbrev pub revenue_given : Year → ℤ
revenue_given y = cond (accepted (revenue_rows y)) (assessed_revenue y) (pos 0)

-- what `revenue_of` promises of its result
abbrev pub RevenueGives : Year → Result ℤ Refusal → Type 0
RevenueGives y r = (answer_number r ≡ first_applicable (revenue_rows y)) × (given_or (pos 0) r ≡ revenue_given y)

-- ---- the same line by line
-- what the pounds of a line count by its kind, where that is not 2
abbrev pub counted_by : ℕ → ℤ → ℤ
counted_by kind amount = cond (ltb kind 7 || eqb kind 10) amount (neg_ℤ amount)
