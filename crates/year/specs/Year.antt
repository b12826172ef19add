-- A year, its ranges and its lines: rules 7.1 to 7.4.
use Rattle.std.specs.Prelude.{Bool, false, not, ◌&&◌, ◌||◌, List, [], ◌∷◌, ◌≡◌, ℕ, leb, eqb, take, drop, replicate, ℤ, pos, nat_abs, Result, ⊤}
use Rattle.std.specs.Int.Signed.{non_neg}
use Rattle.lists.specs.Lists.{all}
use Rattle.refusals.specs.Refusals.{Rows, first_applicable, answer_number}
use Rattle.refusals.specs.declared.Refusal.TheVariants.{BadYear}
use Rattle.refusals.specs.declared.Refusal.{Refusal}
use Rattle.calendar.specs.Years.{good_year_number}
use Rattle.outage.specs.Log.{log_holding, last_regime_end}
use Rattle.year.specs.declared.Line.{Line}
use Rattle.year.specs.declared.Year.{Year}

-- rule 7.3: a free line slot
abbrev pub zero_line : Line
zero_line = record { kind = 0; currency = 0; amount = pos 0 }

abbrev pub line_slots : ℕ
line_slots = 64

-- rule 7.2: the fresh year
abbrev pub fresh_year : Year
fresh_year = record {
  number = 1;
  pppi = 10000;
  rate = 100000;
  aic = 10000;
  pyc = 10000;
  pyf = 10000;
  lines = replicate line_slots zero_line;
  line_count = 0;
  exceptional = false;
  wpa = pos 0;
  log = log_holding last_regime_end [];
}

-- ---- ranges
-- rule 7.1: the index
abbrev pub good_pppi : ℕ → Bool
good_pppi pppi = leb 5000 pppi && leb pppi 50000

-- rule 7.1: the rate
abbrev pub good_rate : ℕ → Bool
good_rate rate = leb 1 rate && leb rate 200000

-- rule 7.1: year number, index, rate and the three factors
abbrev pub good_factors : ℕ → ℕ → ℕ → ℕ → ℕ → ℕ → Bool
good_factors number pppi rate aic pyc pyf =
    good_year_number number && (good_pppi pppi && (good_rate rate && (leb aic 20000 && (leb pyc 10000 && leb pyf 10000))))

-- rule 7.3: a line's amount
abbrev pub good_line_amount : ℤ → Bool
good_line_amount z = leb (nat_abs z) 1000000000

-- rule 7.1: the within-period adjustment
abbrev pub good_wpa : ℤ → Bool
good_wpa z = leb (nat_abs z) 1000000000

-- rule 7.4: kinds of either sign
abbrev pub either_sign : ℕ → Bool
either_sign kind = eqb kind 2 || leb 7 kind

abbrev pub good_line : Line → Bool
good_line l =
    (leb 1 l.kind && leb l.kind 11) && (leb l.currency 1 && (good_line_amount l.amount && (either_sign l.kind || non_neg l.amount)))

abbrev pub is_zero_line : Line → Bool
is_zero_line l = eqb l.kind 0 && (eqb l.currency 0 && eqb (nat_abs l.amount) 0)

-- rules 7.1 and 7.3: the lines that are counted, and the slots past them
abbrev pub good_lines : List Line → ℕ → Bool
good_lines lines count = leb count line_slots && (all good_line (take count lines) && all is_zero_line (drop count lines))

-- ---- a year, all of it but its log
abbrev pub good_year : Year → Bool
good_year y =
    good_factors y.number y.pppi y.rate y.aic y.pyc y.pyf && (good_wpa y.wpa && good_lines y.lines y.line_count)

abbrev pub check_year_rows : Year → Rows
check_year_rows y = (BadYear, not (good_year y)) ∷ []

-- what `check_year` promises of its result
abbrev pub CheckYearGives : Year → Result ⊤ Refusal → Type 0
CheckYearGives y r = answer_number r ≡ first_applicable (check_year_rows y)
