-- The names of a workbook's cells, in ASCII: rule 19.9.
use Rattle.std.specs.Prelude.{cond, List, [], ◌∷◌, ◌++◌, ℕ, ◌+◌, ◌-◌, ◌/◌, ◌%◌, ltb, get_or}
use Rattle.text.specs.Text.{decimal}

-- `revenue `
abbrev pub revenue_word : List ℕ
revenue_word = 114 ∷ 101 ∷ 118 ∷ 101 ∷ 110 ∷ 117 ∷ 101 ∷ 32 ∷ []

-- `cap `
abbrev pub cap_word : List ℕ
cap_word = 99 ∷ 97 ∷ 112 ∷ 32 ∷ []

-- `floor `
abbrev pub floor_word : List ℕ
floor_word = 102 ∷ 108 ∷ 111 ∷ 111 ∷ 114 ∷ 32 ∷ []

-- `within-period adjustment `
abbrev pub within_word : List ℕ
within_word = 119 ∷ 105 ∷ 116 ∷ 104 ∷ 105 ∷ 110 ∷ 45 ∷ 112 ∷ 101 ∷ 114 ∷ 105 ∷ 111 ∷ 100 ∷ 32 ∷ 97 ∷ 100 ∷ 106 ∷ 117 ∷ 115 ∷ 116 ∷ 109 ∷ 101 ∷ 110 ∷ 116 ∷ 32 ∷ []

-- `adjustment`
abbrev pub adjustment_word : List ℕ
adjustment_word = 97 ∷ 100 ∷ 106 ∷ 117 ∷ 115 ∷ 116 ∷ 109 ∷ 101 ∷ 110 ∷ 116 ∷ []

-- `first day`
abbrev pub first_day_word : List ℕ
first_day_word = 102 ∷ 105 ∷ 114 ∷ 115 ∷ 116 ∷ 32 ∷ 100 ∷ 97 ∷ 121 ∷ []

-- `last day`
abbrev pub last_day_word : List ℕ
last_day_word = 108 ∷ 97 ∷ 115 ∷ 116 ∷ 32 ∷ 100 ∷ 97 ∷ 121 ∷ []

-- `median`
abbrev pub median_word : List ℕ
median_word = 109 ∷ 101 ∷ 100 ∷ 105 ∷ 97 ∷ 110 ∷ []

-- the four cells of a year, in order
abbrev pub year_words : List (List ℕ)
year_words = revenue_word ∷ cap_word ∷ floor_word ∷ within_word ∷ []

-- the cells behind those of the years, in order: `A`, `C`, `F`, `W` and the words
abbrev pub period_words : List (List ℕ)
period_words = (65 ∷ []) ∷ (67 ∷ []) ∷ (70 ∷ []) ∷ (87 ∷ []) ∷ adjustment_word ∷ first_day_word ∷ last_day_word ∷ median_word ∷ []

unfoldable pub year_word : ℕ → List ℕ
year_word kind = get_or year_words kind []

-- as `cap 3`: years are those of the period, from 1
unfoldable pub year_name : ℕ → List ℕ
year_name i = year_word (i % 4) ++ decimal (i / 4 + 1)

unfoldable pub period_name : ℕ → List ℕ
period_name i = get_or period_words (i - 20) []

-- the name of the cell at an index, of the 28
unfoldable pub name_of : ℕ → List ℕ
name_of i = cond (ltb i 20) (year_name i) (period_name i)
