-- What each call keeps holds after any sequence of calls. Over any state, call, result and event. Assumes nothing.
use mathlib.Core.Path.{subst}
use mathlib.Core.List.{List, [], ◌∷◌, ◌++◌, append_assoc, append-nil}
use Rattle.demands.specs.Runs.{Ran, after, events_of}

module _ {State Call Result Event : Type 0} (promised : State → Call → Result → Type 0) (left : Result → State) (happened : Call × Result → List Event)
    (Keeps : State → List Event → Type 0)
    (step : (s : State) (before : List Event) → Keeps s before → (call : Call) (r : Result) → promised s call r → Keeps (left r) (before ++ happened (call, r))) where
  pub run_keeps : (turns : List (Call × Result)) (s : State) (before : List Event) → Keeps s before → Ran promised left s turns → Keeps (after left s turns) (before ++ events_of happened turns)
  run_keeps [] s before k g = rw append-nil k
  run_keeps (turn ∷ turns) s before k g =
      subst (λ (b : List Event). Keeps (after left (left turn.1) turns) b) (append_assoc before (happened turn) (events_of happened turns))
      (run_keeps turns (left turn.1) (before ++ happened turn) (step s before k turn.0 turn.1 g.0) g.1)
