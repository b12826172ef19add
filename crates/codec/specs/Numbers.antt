-- Numbers in bytes, the high byte first, at every width: rule 10.1.
use Rattle.std.specs.Prelude.{List, [], ◌∷◌, ◌++◌, ℕ, zero, suc, ◌+◌, ◌*◌, ◌/◌, ◌%◌}

-- what bytes spell after the number that those before them spell
unfoldable pub spelled : ℕ → List ℕ → ℕ
spelled a [] = a
spelled a (x ∷ xs) = spelled (a * 256 + x) xs

-- the n low bytes of a number
unfoldable pub bytes_of : ℕ → ℕ → List ℕ
bytes_of zero v = []
bytes_of (suc n) v = bytes_of n (v / 256) ++ (v % 256 ∷ [])
