-- Demand 3 of a log that is read from a day sheet: each run of pieces that the sheet joins is one accepted entry, so the log is that
-- after a run of calls from the empty log.
use Rattle.std.specs.Prelude.{◌≡◌, List, map, ℕ, Result}
use Rattle.refusals.specs.declared.Refusal.{Refusal}
use Rattle.refusals.specs.Refusals.{answer_number}
use Rattle.outage.specs.declared.Log.{Log}
use Rattle.outage.specs.Calls.{EmptyGives}
use Rattle.sheet_format.specs.Pieces.{Piece, meant}
use Rattle.sheet_format.specs.Sheet.{sheet_form}
use Rattle.demands.specs.Given.{made_log}
use Rattle.demands.specs.Runs.{events_of}
use Rattle.demands.specs.Log.{entering, Turn, RanFrom, log_after, put, happened}

pub record FromSheet (regime_end : ℕ) (bs : List ℕ) (log : Log) : Type 0 where
  -- the bytes are these pieces, one after the other
  pub pieces : List Piece
  pub are : (sheet_form regime_end).write pieces ≡ bs
  -- from the empty log for the regime end
  pub made : Result Log Refusal
  pub empty : EmptyGives regime_end made
  pub taken : answer_number made ≡ 0
  -- the entries that they mean are entered one by one, in their order
  pub turns : List Turn
  pub calls : map (λ (turn : Turn). turn.0) turns ≡ map entering (meant pieces)
  pub ran : RanFrom (made_log made) turns
  -- each is accepted, and nothing else happens
  pub events : events_of happened turns ≡ map put (meant pieces)
  -- the log that is read is the one that then stands
  pub gives : log_after (made_log made) turns ≡ log
