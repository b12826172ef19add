-- What it is for bytes to be a return, and the place of a refusal: rules 10.5 and 10.6. No contract is stated by these
-- definitions; theorems say by them what the contracts come to.
use Rattle.std.specs.Prelude.{true, List, ◌≡◌, ℕ, length}
use Rattle.outage.specs.Log.{slots}
use Rattle.year.specs.declared.Year.{Year}
use Rattle.year.specs.Year.{line_slots}
use Rattle.codec.specs.Theorems as messages
use Rattle.return_format.specs.Return.{valid_year, return_of}

-- bytes are the return of a valid year, which has its 64 line slots and its 400 entry slots
pub record IsReturnOf (y : Year) (bs : List ℕ) : Type 0 where
  pub row : length y.lines ≡ line_slots
  pub slotted : length y.log.entries ≡ slots
  pub valid : valid_year y ≡ true
  pub is : return_of y ≡ bs

-- some valid year has them for its return
pub record IsReturn (bs : List ℕ) : Type 0 where
  pub year : Year
  pub return_of_law : IsReturnOf year bs

-- ---- the place of a refusal
-- rule 10.5: the first field that cannot be taken where it stands, or the end. The bytes before the place are
-- whole fields that begin some valid return, and no valid return goes on there with the field, or the end, that was found
abbrev pub RefusalPlace : List ℕ → ℕ → Type 0
RefusalPlace = messages.RefusalPlace IsReturnOf
