-- What the program `daysheet` prints, in ASCII: rules, section 11.
use Rattle.std.specs.Prelude.{cond, List, [], ◌∷◌, ◌++◌, ◌≡◌, ℕ, ◌≤◌, ℤ}
use Rattle.refusals.specs.Refusals.{accepted, first_applicable}
use Rattle.calendar.specs.Years.{year_start, year_end}
use Rattle.outage.specs.Log.{last_regime_end, log_entries, lost_energy}
use Rattle.year.specs.declared.Year.{Year}
use Rattle.revenue.specs.Revenue.{assessed_revenue, revenue_rows}
use Rattle.text.specs.Text.{decimal, signed_decimal, text_of, room}
use Rattle.text.specs.declared.Text.{Text}
use Rattle.return_format.specs.Return.{read_rows, read_year}

-- `year `
abbrev pub year_word : List ℕ
year_word = 121 ∷ 101 ∷ 97 ∷ 114 ∷ 32 ∷ []

-- `lost `
abbrev pub lost_word : List ℕ
lost_word = 108 ∷ 111 ∷ 115 ∷ 116 ∷ 32 ∷ []

-- `carried `
abbrev pub carried_word : List ℕ
carried_word = 99 ∷ 97 ∷ 114 ∷ 114 ∷ 105 ∷ 101 ∷ 100 ∷ 32 ∷ []

-- `revenue `
abbrev pub revenue_word : List ℕ
revenue_word = 114 ∷ 101 ∷ 118 ∷ 101 ∷ 110 ∷ 117 ∷ 101 ∷ 32 ∷ []

-- `refused `
abbrev pub refused_word : List ℕ
refused_word = 114 ∷ 101 ∷ 102 ∷ 117 ∷ 115 ∷ 101 ∷ 100 ∷ 32 ∷ []

-- rule 11.3: a word, a figure and a newline
abbrev pub line_of : List ℕ → List ℕ → List ℕ
line_of word figure = word ++ (figure ++ (10 ∷ []))

-- rule 11.1: what is lost in the year
abbrev pub lost_in_year : Year → ℕ
lost_in_year y = lost_energy (year_start y.number) (year_end y.number last_regime_end) (log_entries y.log)

-- rule 11.1: what its outages lose after its end
abbrev pub lost_after : Year → ℕ
lost_after y = lost_energy (year_end y.number last_regime_end) last_regime_end (log_entries y.log)

-- rule 11.1: the four lines of a year
unfoldable pub year_lines : ℕ → ℕ → ℕ → ℤ → List ℕ
year_lines number lost carried pounds =
    line_of year_word (decimal number)
    ++ (line_of lost_word (decimal lost) ++ (line_of carried_word (decimal carried) ++ line_of revenue_word (signed_decimal pounds)))

-- rule 11.2: the line of a refusal
unfoldable pub refusal_of : ℕ → List ℕ
refusal_of number = line_of refused_word (decimal number)

abbrev pub printed_year : Year → List ℕ
printed_year y =
    cond (accepted (revenue_rows y)) (year_lines y.number (lost_in_year y) (lost_after y) (assessed_revenue y)) (refusal_of (first_applicable (revenue_rows y)))

-- rule 11.2: the reading is refused, or else the revenue
unfoldable pub printed : List ℕ → List ℕ
printed bs = cond (accepted (read_rows bs)) (printed_year (read_year bs)) (refusal_of (first_applicable (read_rows bs)))

-- what `print_return` promises of its result
abbrev pub PrintGives : List ℕ → Text → Type 0
PrintGives bs r = (r ≡ text_of (printed bs)) × (r.length ≤ room)
