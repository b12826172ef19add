-- A return that is read and written again: rule 10.6 as a call.
use Rattle.std.specs.Prelude.{List, [], ◌∷◌, ◌≡◌, ℕ, ltb, length, Result}
use Rattle.refusals.specs.Refusals.{Rows, accepted, first_applicable, answer_number, given_or}
use Rattle.refusals.specs.declared.Refusal.{Refusal}
use Rattle.refusals.specs.declared.Refusal.TheVariants.{Malformed, NoRoom}
use Rattle.codec.specs.Message.{length_in, buffer_in}
use Rattle.return_format.specs.Return.{reading_of, is_refused}

-- 13, the bytes are no return; 14, the buffer has no room for them
abbrev pub refile_rows : List ℕ → ℕ → Rows
refile_rows bs room = (Malformed, is_refused (reading_of bs)) ∷ (NoRoom, ltb room (length bs)) ∷ []

abbrev pub refiled_length : List ℕ → ℕ → ℕ
refiled_length bs room = length_in (accepted (refile_rows bs room)) bs

-- the same bytes, and the rest of the buffer as it was; beside a refusal all of it
abbrev pub refiled_buffer : List ℕ → List ℕ → List ℕ
refiled_buffer bs out = buffer_in (accepted (refile_rows bs (length out))) bs out

-- what `refile` promises of its result, and of the buffer after it
abbrev pub RefileGives : List ℕ → List ℕ → Result ℕ Refusal → List ℕ → Type 0
RefileGives bs out r after =
    (answer_number r ≡ first_applicable (refile_rows bs (length out))) × (given_or 0 r ≡ refiled_length bs (length out)) × (after ≡ refiled_buffer bs out)
