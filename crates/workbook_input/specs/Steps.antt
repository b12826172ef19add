-- What the functions inside are stated by. No call is stated by it: laws turn it into the words of the input.
use Rattle.std.specs.Prelude.{Bool, ◌&&◌, List, ◌≡◌, ℕ, ◌+◌, Option, Some, Result}
use Rattle.refusals.specs.declared.Refusal.{Refusal}
use Rattle.refusals.specs.Refusals.{answer_number}
use Rattle.entries.specs.declared.Entry.{Entry}
use Rattle.outage.specs.declared.Log.{Log}
use Rattle.outage.specs.Calls.{enter_rows, enter_log}
use Rattle.plan.specs.Calls.{Outcome, through, why_in, one_by_one}
use Rattle.codec.specs.Format.{when}
use Rattle.return_format.specs.Return.{read_year}
use Rattle.workbook_input.specs.declared.returns.Next.{Next}
use Rattle.workbook_input.specs.Input.{next_length, next_uncut, next_return, is_return}

-- ---- the return that comes next, and how many bytes it has with its length
abbrev pub next_good : List ℕ → Bool
next_good bs = next_uncut bs && is_return (next_return bs)

abbrev pub next_of : List ℕ → Option Next
next_of bs = when (next_good bs) (Some (record { year = read_year (next_return bs); bytes = 2 + next_length bs }))

-- ---- outages one by one: the answer is that of the first that fails, or the log stands in which all are
pub record Stands {A : Type 0} (o : Outcome Log) (r : Result A Refusal) (after : Log) : Type 0 where
  pub why : answer_number r ≡ why_in o
  pub log : answer_number r ≡ 0 → o ≡ through after

-- whatever number the first of them has
abbrev pub EntersAll : {A : Type 0} → Log → List Entry → Result A Refusal → Log → Type 0
EntersAll log es r after = (outage : ℕ) → Stands (one_by_one enter_rows enter_log outage log es) r after
