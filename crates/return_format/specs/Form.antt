-- The format of the yearly return, as rule 10.2 has it.
use Rattle.std.specs.Prelude.{Bool, false, cond, not, ◌&&◌, List, [], ◌∷◌, ◌++◌, ℕ, leb, ltb, eqb, ℤ, pos}
use Rattle.std.specs.Prelude.{Option, Some, None}
use Rattle.money.specs.Pounds.{is_none}
use Rattle.calendar.specs.Years.{last_year, year_start, year_end}
use Rattle.entries.specs.declared.Entry.{Entry}
use Rattle.outage.specs.Log.{slots, last_regime_end, valid_entries}
use Rattle.year.specs.declared.Line.{Line}
use Rattle.year.specs.Year.{good_line, line_slots}
use Rattle.codec.specs.Format.{Value, num, int, pair, mapped, restricted, Item, tagged, Codec, one, opt, many, both}
use Rattle.outage_field.specs.Field.{caused_where}

-- ---- values
-- 01: the year number
abbrev pub year_value : Value ℕ
year_value = num 1 1 last_year

-- 02: the index
abbrev pub pppi_value : Value ℕ
pppi_value = num 4 5000 50000

-- 03: the rate
abbrev pub rate_value : Value ℕ
rate_value = num 4 1 200000

-- 04: the cap factor
abbrev pub aic_value : Value ℕ
aic_value = num 2 0 20000

-- 05: the partial-year factors (SC2 22, 23), and those that a return leaves out, and may not have: in year 1 those of 335 days of
-- 365, in years 2 to 24 those of a whole year, in year 25 none
abbrev pub left_out : ℕ → Option (ℕ × ℕ)
left_out number = cond (eqb number 1) (Some (9178, 9178)) (cond (eqb number last_year) None (Some (10000, 10000)))

abbrev pub are_these : Option (ℕ × ℕ) → ℕ × ℕ → Bool
are_these None f = false
are_these (Some these) f = eqb f.0 these.0 && eqb f.1 these.1

abbrev pub is_left_out : ℕ → ℕ × ℕ → Bool
is_left_out number f = are_these (left_out number) f

abbrev pub factors_value : ℕ → Value (ℕ × ℕ)
factors_value number = restricted (λ f. not (is_left_out number f)) (pair (num 2 0 10000) (num 2 0 10000))

-- 06: a line
abbrev pub to_line : ℕ × (ℕ × ℤ) → Line
to_line p = record { kind = p.0; currency = p.1.0; amount = p.1.1 }

abbrev pub from_line : Line → ℕ × (ℕ × ℤ)
from_line l = (l.kind, (l.currency, l.amount))

abbrev pub line_layout : Value Line
line_layout = mapped to_line from_line (pair (num 1 0 255) (pair (num 1 0 255) (int 1000000000)))

abbrev pub line_value : Value Line
line_value = restricted good_line line_layout

-- 07: an outage, with its cause where that is not 1, which starts from a first minute on and before an end
abbrev pub starts_between : ℕ → ℕ → Entry → Bool
starts_between first end e = leb first e.start && ltb e.start end

-- rule 10.3: it starts in the return's year
abbrev pub starts_in : ℕ → Entry → Bool
starts_in number e = starts_between (year_start number) (year_end number last_regime_end) e

-- rule 10.3: with those before it, it keeps every rule of a log
abbrev pub may_follow : ℕ → List Entry → Entry → Bool
may_follow number before e = starts_in number e && valid_entries last_regime_end (before ++ (e ∷ []))

-- 08: the mark
abbrev pub mark_value : Value ℕ
mark_value = num 1 1 1

-- 09: the within-period adjustment, which is not 0
abbrev pub wpa_value : Value ℤ
wpa_value = restricted (λ z. not (is_none z)) (int 1000000000)

-- ---- fields
abbrev pub line_item : List Line → Item Line
line_item before = tagged 6 line_value

abbrev pub entry_item : ℕ → List Entry → Item Entry
entry_item number before = caused_where (may_follow number before) 7

-- the factors: required in year 25
abbrev pub factors : ℕ → Codec (ℕ × ℕ)
factors number = opt (tagged 5 (factors_value number)) (left_out number) (is_left_out number)

-- the lines
abbrev pub lines : Codec (List Line)
lines = many line_item line_slots

-- the outages
abbrev pub outages : ℕ → Codec (List Entry)
outages number = many (entry_item number) slots

-- the mark: 1 where it is there, 0 where it is left out
abbrev pub mark : Codec ℕ
mark = opt (tagged 8 mark_value) (Some 0) (λ n. eqb n 0)

-- the adjustment: 0 where it is left out
abbrev pub wpa : Codec ℤ
wpa = opt (tagged 9 wpa_value) (Some (pos 0)) is_none

-- ---- the fields in their order
-- the four required fields
abbrev pub RequiredParts : Type 0
RequiredParts = ℕ × (ℕ × (ℕ × ℕ))

abbrev pub required : Codec RequiredParts
required =
    both (one (tagged 1 year_value)) (λ number.
    both (one (tagged 2 pppi_value)) (λ pppi.
    both (one (tagged 3 rate_value)) (λ rate.
    one (tagged 4 aic_value))))

-- all that follows the factors in the return of a year
abbrev pub TailParts : Type 0
TailParts = List Line × (List Entry × (ℕ × ℤ))

abbrev pub tail : ℕ → Codec TailParts
tail number =
    both lines (λ l.
    both (outages number) (λ o.
    both mark (λ m.
    wpa)))

-- all that follows the required fields
abbrev pub BodyParts : Type 0
BodyParts = (ℕ × ℕ) × TailParts

abbrev pub body : ℕ → Codec BodyParts
body number = both (factors number) (λ f. tail number)

abbrev pub Parts : Type 0
Parts = RequiredParts × BodyParts

unfoldable pub form : Codec Parts
form = both required (λ h. body h.0)
