-- The one order of refusals: rule 12.2. No contract is stated by it; theorems say that the rows of each call stand in it.
use Rattle.std.specs.Prelude.{Bool, true, false, cond, List, [], ◌∷◌, eqb}
use Rattle.refusals.specs.Refusals.{Rows, refusal_number}
use Rattle.refusals.specs.declared.Refusal.{Refusal}
use Rattle.refusals.specs.declared.Refusal.TheVariants.{BrokenLog, BadSpan, BadPower, Clash, FullLog, NoSuchEntry, BadStretch, BadBook, BadYear, FloorAboveCap, TooLarge, BadPeriod, Malformed, NoRoom, BadPiece, ClosedTime, BadPlan, BadCell, HeldAlready, NotOnSheet}

-- rule 12.2: the order in which they are looked for
abbrev pub in_turn : List Refusal
in_turn =
    BadBook
    ∷ BrokenLog
    ∷ BadPlan
    ∷ BadSpan
    ∷ BadPower
    ∷ ClosedTime
    ∷ HeldAlready
    ∷ Clash
    ∷ FullLog
    ∷ NoSuchEntry
    ∷ BadStretch
    ∷ BadYear
    ∷ BadPeriod
    ∷ TooLarge
    ∷ FloorAboveCap
    ∷ Malformed
    ∷ NotOnSheet
    ∷ NoRoom
    ∷ []

-- rule 12.2: 18 is looked for alone
abbrev pub in_cells : List Refusal
in_cells = BadCell ∷ []

-- rules 12.2 and 15.4: on a day sheet the regime end first, and then each piece has an order of its own
abbrev pub on_sheets : List Refusal
on_sheets = BadBook ∷ Malformed ∷ BadPiece ∷ BadSpan ∷ BadPower ∷ Clash ∷ FullLog ∷ []

-- the rows stand in the order of the list
abbrev pub in_order_of : List Refusal → Rows → Bool
in_order_of turns [] = true
in_order_of [] (row ∷ rows) = false
in_order_of (turn ∷ turns) (row ∷ rows) = cond (eqb (refusal_number turn) (refusal_number row.0)) (in_order_of turns rows) (in_order_of turns (row ∷ rows))
