-- The live tasks of jobs that are kept once they are worked out.
use Rattle.std.specs.Prelude.{◌≡◌, ℕ, List, [], Option, Some, None}
use Rattle.std.specs.Option.{ForSome}
use Rattle.ge_collections.specs.Keyed.{at_number}
use Rattle.ge_model_rows.specs.JobRows.{Job}
use Rattle.ge_model_rows.specs.TaskRows.{TaskSpan}
use Rattle.ge_model_jobs.specs.Holds.{live_tasks}

-- the live tasks of a job that may not be there
abbrev pub live_in : Option Job → List TaskSpan
live_in None = []
live_in (Some job) = live_tasks job

abbrev pub live_at : List (ℕ × Job) → ℕ → List TaskSpan
live_at jobs number = live_in (at_number jobs number)

-- what is kept at a number is the live tasks of the job there
abbrev pub AreLive : List (ℕ × Job) → List (ℕ × List TaskSpan) → Type 0
AreLive jobs sets = (number : ℕ) → ForSome (at_number sets number) (λ set. set ≡ live_at jobs number)
