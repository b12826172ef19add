-- The refusals and their numbers: rule 12.1; and the first row that applies: rule 12.2.
use Rattle.std.specs.Prelude.{Bool, cond, List, [], ◌∷◌, ℕ, eqb, Result, Ok, Err}
use Rattle.refusals.specs.declared.Refusal.{Refusal}
use Rattle.refusals.specs.declared.Refusal.TheVariants.{BrokenLog, BadSpan, BadPower, Clash, FullLog, NoSuchEntry, BadStretch, BadBook, BadYear, FloorAboveCap, TooLarge, BadPeriod, Malformed, NoRoom, BadPiece, ClosedTime, BadPlan, BadCell, HeldAlready, NotOnSheet}
use Rattle.refusals.specs.declared.RefusedAt.{RefusedAt}

-- rule 12.1: the number of each refusal
abbrev pub refusal_number : Refusal → ℕ
refusal_number BrokenLog = 1
refusal_number BadSpan = 2
refusal_number BadPower = 3
refusal_number Clash = 4
refusal_number FullLog = 5
refusal_number NoSuchEntry = 6
refusal_number BadStretch = 7
refusal_number BadBook = 8
refusal_number BadYear = 9
refusal_number FloorAboveCap = 10
refusal_number TooLarge = 11
refusal_number BadPeriod = 12
refusal_number Malformed = 13
refusal_number NoRoom = 14
refusal_number BadPiece = 15
refusal_number ClosedTime = 16
refusal_number BadPlan = 17
refusal_number BadCell = 18
refusal_number HeldAlready = 19
refusal_number NotOnSheet = 20

-- the number of an answer, 0 where the call is not refused
abbrev pub answer_number : {A : Type 0} → Result A Refusal → ℕ
answer_number (Ok x) = 0
answer_number (Err why) = refusal_number why

-- what an answer gives, and beside a refusal what is named for that: rule 12.4
abbrev pub given_or : {A : Type 0} → A → Result A Refusal → A
given_or none (Ok x) = x
given_or none (Err why) = none

-- an answer without the part at which it is refused, and the number of that part, 0 where the call is not refused
abbrev pub why_alone : {A : Type 0} → Result A RefusedAt → Result A Refusal
why_alone (Ok x) = Ok x
why_alone (Err refused) = Err refused.why

abbrev pub part_number : {A : Type 0} → Result A RefusedAt → ℕ
part_number (Ok x) = 0
part_number (Err refused) = refused.at

-- the rows that a call checks: each a refusal, and whether it applies
abbrev pub Rows : Type 0
Rows = List (Refusal × Bool)

-- the number of the first row that applies, or 0
abbrev pub first_applicable : Rows → ℕ
first_applicable [] = 0
first_applicable (row ∷ rows) = cond row.1 (refusal_number row.0) (first_applicable rows)

-- no row applies
abbrev pub accepted : Rows → Bool
accepted rows = eqb (first_applicable rows) 0
