-- The plan of a scheduling run.
use Rattle.std.specs.Prelude.{ℕ, List, [], ◌∷◌, ◌++◌, flat_map, filter_map, codes, decimal}
use Rattle.ge_model_rows.specs.ClusterRows.{Cluster}
use Rattle.ge_model_rows.specs.DecisionRows.{Decision, start_of}
use Rattle.ge_model_rows.specs.EntryRows.{Run}
use Rattle.ge_model_rows.specs.EventRows.{Event, Planned}
use Rattle.ge_model_rows.specs.ScheduleRows.{Start, Reservation}
use Rattle.ge_model_rows.specs.TaskRows.{TaskId}
use Rattle.ge_model_order.specs.Priority.{prios_at, order_of}
use Rattle.ge_model_place.specs.Running.{run_of}
use Rattle.ge_model_report.specs.Listing.{grants_text}
use Rattle.ge_model_core.specs.Answers.{changed, unless_faulty}
use Rattle.ge_model_core.specs.Configuring.{manager_faults}

abbrev pub task_text : TaskId → List ℕ
task_text task = decimal task.job ++ 46 ∷ decimal task.task

abbrev pub start_line : Start → List ℕ
start_line s = codes "start " ++ decimal s.serial ++ 32 ∷ task_text s.task ++ 32 ∷ grants_text s.grants

abbrev pub reserve_line : Reservation → List ℕ
reserve_line r = codes "reserve " ++ task_text r.task ++ 32 ∷ decimal r.at ++ 32 ∷ grants_text r.grants

-- the line of a decision; a task that waits has none
abbrev pub decision_lines : Decision → List (List ℕ)
decision_lines (Decision.Start s) = start_line s ∷ []
decision_lines (Decision.Reserve r) = reserve_line r ∷ []
decision_lines (Decision.Skip task) = []

-- a run's entry has its starts, also where there are none
abbrev pub decided : Event → List Decision → Planned
decided e decisions = changed e (Run (filter_map start_of decisions)) (flat_map decision_lines decisions)

-- the decisions of a run at a moment: over the eligible tasks of all candidates, by priority
unfoldable pub decisions_at : Cluster → ℕ → List Decision
decisions_at c now = run_of c (order_of c (prios_at c now) now) now

unfoldable pub sched_plan : Cluster → Event → Planned
sched_plan c e = unless_faulty (manager_faults c e) (decided e (decisions_at c e.moment))
