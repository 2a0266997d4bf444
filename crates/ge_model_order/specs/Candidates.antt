-- The candidates of a run.
use Rattle.std.specs.Prelude.{ℕ, Bool, not, List, filter}
use Rattle.std.specs.Map.{keys_of}
use Rattle.ge_model_rows.specs.ClusterRows.{Cluster}
use Rattle.ge_model_rows.specs.Pieces.{is_empty}
use Rattle.ge_model_jobs.specs.Holds.{eligible_tasks}

-- whether a job has an eligible task; the first one is enough
unfoldable pub is_candidate : Cluster → ℕ → ℕ → Bool
is_candidate c now number = not (is_empty (eligible_tasks c.jobs number now 1))

-- the jobs with an eligible task, by number
abbrev pub candidates : Cluster → ℕ → List ℕ
candidates c now = filter (is_candidate c now) (keys_of c.jobs)
