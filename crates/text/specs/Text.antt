-- Text in ASCII, at most 64 bytes, and numbers in it: rule 11.3.
use Rattle.std.specs.Prelude.{cond, List, [], ◌∷◌, ◌++◌, ℕ, zero, suc, ◌+◌, ◌-◌, ◌/◌, ◌%◌, ltb, ℤ, pos, negsuc, length, replicate, set}
use Rattle.text.specs.declared.Text.{Text}

abbrev pub room : ℕ
room = 64

-- the text that holds these bytes and nothing else
abbrev pub text_of : List ℕ → Text
text_of bs = record { bytes = bs ++ replicate (room - length bs) 0; length = length bs }

-- a byte more at the end, where there is room
abbrev pub pushed_byte : Text → ℕ → Text
pushed_byte t b = cond (ltb t.length room) (record { bytes = set t.bytes t.length b; length = t.length + 1 }) t

-- bytes more at the end, one after the other, as long as there is room
unfoldable pub pushed : Text → List ℕ → Text
pushed t [] = t
pushed t (b ∷ bs) = pushed (pushed_byte t b) bs

-- at most k decimal digits of n, the most significant first and no zero in front: 48 is the digit 0
unfoldable pub digits : ℕ → ℕ → List ℕ
digits zero n = []
digits (suc k) n = cond (ltb n 10) ((48 + n) ∷ []) (digits k (n / 10) ++ ((48 + n % 10) ∷ []))

-- a number of 64 bits has at most 20
abbrev pub decimal : ℕ → List ℕ
decimal n = digits 20 n

-- 45 is the minus
abbrev pub signed_decimal : ℤ → List ℕ
signed_decimal (pos n) = decimal n
signed_decimal (negsuc n) = 45 ∷ decimal (suc n)
