-- Any sequence of calls: each with a result that meets what the call promises, on what the one before it left.
use Rattle.std.specs.Prelude.{List, [], ◌∷◌, ◌++◌}

module _ {State Call Result : Type 0} (promised : State → Call → Result → Type 0) (left : Result → State) where
  abbrev pub Ran : State → List (Call × Result) → Type 0
  Ran s [] = Unit {0}
  Ran s (turn ∷ turns) = promised s turn.0 turn.1 × Ran (left turn.1) turns

-- what is left after the last of them
abbrev pub after : {State Call Result : Type 0} → (Result → State) → State → List (Call × Result) → State
after left s [] = s
after left s (turn ∷ turns) = after left (left turn.1) turns

-- what happened, from the calls and their results alone
abbrev pub events_of : {Call Result Event : Type 0} → (Call × Result → List Event) → List (Call × Result) → List Event
events_of happened [] = []
events_of happened (turn ∷ turns) = happened turn ++ events_of happened turns
