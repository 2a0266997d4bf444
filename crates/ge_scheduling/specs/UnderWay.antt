-- A run under way.
use Rattle.std.specs.Prelude.{◌≡◌, Bool, not, ◌&&◌, List, ◌++◌, map, IfSome}
use Rattle.ge_model_rows.specs.ClusterRows.{Cluster}
use Rattle.ge_model_rows.specs.DecisionRows.{Skip}
use Rattle.ge_model_rows.specs.TaskRows.{TaskId}
use Rattle.ge_model_rows.specs.Pieces.{is_empty}
use Rattle.ge_model_rows.specs.Groups.{expanded}
use Rattle.ge_model_place.specs.InstanceOrder.{instance_order}
use Rattle.ge_model_place.specs.Running.{task_of, decided, run_of}
use Rattle.ge_scheduling.specs.declared.underway.Run.{Run}
use Rattle.ge_scheduling.specs.Bases.{may_keep}
use Rattle.ge_attempts.specs.Counts.{IsTallied}
use Rattle.ge_scheduling.specs.Passing.{Waits}
use Rattle.ge_attempts.specs.Rests.{AreLeft}

-- the tasks that are decided, in their order
abbrev pub tasks_decided : Run → List TaskId
tasks_decided run = map task_of run.so_far.decisions

-- what is booked and decided is what the model's run over these tasks has, and what is kept beside that belongs to it: sched_conf
pub record IsUnderWay (c : Cluster) (run : Run) : Type 0 where
  pub spelled : run.groups ≡ expanded c
  pub ordered : run.order ≡ instance_order c run.groups
  pub made : (run.so_far.booked, run.so_far.decisions) ≡ decided c run.groups run.order run.moment (tasks_decided run)
  pub tallied : IsTallied c run.so_far.decisions run.so_far.tally
  pub waits : IfSome run.so_far.passed (Waits c run.groups run.order run.moment run.so_far.booked run.so_far.decisions)
  pub left : AreLeft c run.groups run.moment run.so_far.booked run.order run.so_far.room

-- whether no more tasks can start or have slots kept: no instance has enough left for any job, and there is no reservation that a job may be sent into
abbrev pub leaves_nothing : Cluster → Run → Bool
leaves_nothing c run = is_empty run.so_far.room.vacant && is_empty c.advances && not (may_keep c run.so_far.tally.reserved)

-- each task beside those that are decided waits, in whatever order they are
abbrev pub OthersWait : Cluster → Run → Type 0
OthersWait c run = (others : List TaskId) → run_of c (tasks_decided run ++ others) run.moment ≡ run.so_far.decisions ++ map (λ task. Skip task) others
