-- What the plan of a scheduling run promises, in the words of its user.
use Rattle.std.specs.Prelude.{◌≡◌, ℕ, List}
use Rattle.std.specs.List.Sorted.{IsStrictlySortedBy}
use Rattle.ge_model_rows.specs.ClusterRows.{Cluster}
use Rattle.ge_model_rows.specs.DecisionRows.{Decision}
use Rattle.ge_model_rows.specs.EventRows.{Event, Planned}
use Rattle.ge_model_jobs.specs.Orderly.{IsOrdered}
use Rattle.ge_model_order.specs.Priority.{prios_at}
use Rattle.ge_model_order.specs.Orders.{order_at, times_in, once_if_eligible, turn_cmp}
use Rattle.ge_model_place.specs.Runs.{IsRun, DecidesEach, KeepsLimits}
use Rattle.ge_model_core.specs.Answers.{unless_faulty}
use Rattle.ge_model_core.specs.Configuring.{manager_faults}
use Rattle.ge_model_core.specs.Scheduling.{decided}
use Rattle.ge_scheduling.specs.Sooner.{ReservesEarliest}

-- Where the user may order a run, the plan tells the starts and reservations of these decisions, and its entry has the starts. There is one decision
-- for each eligible task; tasks are decided by falling priority (sge_priority), each over all that is booked by then: it starts, is reserved or waits as
-- the rules say, no limit is taken over its capacity at any moment, and a task without a parallel environment is reserved no later than it could start
-- (sched_conf).
pub record Dispatches (c : Cluster) (e : Event) (planned : Planned) : Type 0 where
  pub decisions : List Decision
  pub told : planned ≡ unless_faulty (manager_faults c e) (decided e decisions)
  pub each : DecidesEach (order_at c e.moment) decisions
  pub once : IsOrdered c → (job task : ℕ) → times_in (order_at c e.moment) job task ≡ once_if_eligible c e.moment job task
  pub falling : IsOrdered c → IsStrictlySortedBy (turn_cmp (prios_at c e.moment)) (order_at c e.moment)
  pub run : IsRun c (order_at c e.moment) e.moment decisions
  pub limits : KeepsLimits c e.moment decisions
  pub earliest : ReservesEarliest c e.moment decisions
