-- Decisions by which all that a run tells is known.
use Rattle.std.specs.Prelude.{◌≡◌, ℕ, List, ◌++◌, map}
use Rattle.ge_model_rows.specs.ClusterRows.{Cluster}
use Rattle.ge_model_rows.specs.DecisionRows.{Decision, Skip}
use Rattle.ge_model_rows.specs.TaskRows.{TaskId}
use Rattle.ge_model_place.specs.Running.{run_of}

-- these are the decisions of a run over tasks at a moment, but for those of some at its end that wait: sched_conf
pub record TellsRun (c : Cluster) (tasks : List TaskId) (now : ℕ) (decisions : List Decision) : Type 0 where
  pub others : List TaskId
  pub are : run_of c tasks now ≡ decisions ++ map (λ task. Skip task) others
