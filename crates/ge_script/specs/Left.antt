-- What a generator still has to give.
use Rattle.std.specs.Prelude.{◌≡◌, ℕ, ◌+◌, ◌-◌, if◌then◌else◌, List, [], ◌∷◌, ◌++◌, drop, Option, Some, None}
use Rattle.ge_outside.specs.Draws.{next_state}
use Rattle.ge_model_grammar.specs.Generated.{opening_requests, run_request, end_request, has_end, requests_from}
use Rattle.ge_script.specs.declared.generator.Generator.{Generator}
use Rattle.ge_script.specs.declared.generator.Turn.{Turn}
use Rattle.ge_script.specs.declared.generator.Turn.TheVariants.{Submit, Run, End}

-- the requests from the end report of a job on
abbrev pub from_end : ℕ → ℕ → ℕ → List (List ℕ)
from_end last job state = end_request job state ∷ requests_from (last - job) (job + 1) (next_state state)

-- the requests behind the run that follows a job
abbrev pub behind_run : ℕ → ℕ → ℕ → List (List ℕ)
behind_run last job state = if has_end job then from_end last job state else requests_from (last - job) (job + 1) state

-- the requests behind the opening ones
abbrev pub left_at : ℕ → ℕ → Turn → List (List ℕ)
left_at last state (Submit job) = requests_from (last + 1 - job) job state
left_at last state (Run job) = run_request job ∷ behind_run last job state
left_at last state (End job) = from_end last job state

abbrev pub left : Generator → List (List ℕ)
left g = drop g.opened opening_requests ++ left_at g.last g.state g.turn

-- the next of the requests that were left, or none where there was none
abbrev pub IsNext : List (List ℕ) → List (List ℕ) → Option (List ℕ) → Type 0
IsNext old new None = (old ≡ []) × (new ≡ [])
IsNext old new (Some request) = old ≡ request ∷ new
