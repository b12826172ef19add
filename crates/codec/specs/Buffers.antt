-- Bytes written into a lent buffer, and no other byte changed: rule 10.7.
use Rattle.std.specs.Prelude.{Bool, cond, List, ◌≡◌, ℕ, ◌+◌, leb, length}
use Rattle.std.proofs.lemmas.List.Edits.{sets}

-- the buffer has room for these bytes from a place on
abbrev pub has_room : List ℕ → ℕ → List ℕ → Bool
has_room out at bs = leb (at + length bs) (length out)

-- the buffer with these bytes from that place on and every other byte as it was; where there is no room, as it was
unfoldable pub laid : List ℕ → ℕ → List ℕ → List ℕ
laid out at bs = cond (has_room out at bs) (sets out at bs) out

-- the place after them; where there is no room, that place
unfoldable pub after : List ℕ → ℕ → List ℕ → ℕ
after out at bs = cond (has_room out at bs) (at + length bs) at

-- these bytes stand from a place on, every other byte is as it was, and what comes next goes to `next`
pub record Wrote (before : List ℕ) (at : ℕ) (bs : List ℕ) (now : List ℕ) (next : ℕ) : Type 0 where
  pub is : now ≡ sets before at bs
  pub to : next ≡ at + length bs
