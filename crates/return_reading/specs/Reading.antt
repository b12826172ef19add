-- What reading a return promises: rules 10.5 and 12.4.
use Rattle.std.specs.Prelude.{List, ◌≡◌, ℕ, Result}
use Rattle.refusals.specs.Refusals.{answer_number, first_applicable, given_or, part_number, why_alone}
use Rattle.refusals.specs.declared.RefusedAt.{RefusedAt}
use Rattle.year.specs.declared.Year.{Year}
use Rattle.year.specs.Year.{fresh_year}
use Rattle.return_format.specs.Return.{read_rows, read_place, read_year}

-- what `read_return` promises of its result: beside a refusal its place, and a fresh year
abbrev pub ReturnGives : List ℕ → Result Year RefusedAt → Type 0
ReturnGives s r =
    (answer_number (why_alone r) ≡ first_applicable (read_rows s)) × (part_number r ≡ read_place s) × (given_or fresh_year (why_alone r) ≡ read_year s)
