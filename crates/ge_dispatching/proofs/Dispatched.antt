-- The model's plan of a run is what it promises.
use Rattle.std.proofs.Common.{◌≡◌, refl, Result, IfOk}
use Rattle.ge_model_rows.specs.ClusterRows.{Cluster}
use Rattle.ge_model_rows.specs.EventRows.{Event, Planned}
use Rattle.ge_model_order.proofs.OrderOnce.{each_once_if_eligible}
use Rattle.ge_model_order.proofs.OrderSorted.{order_sorted}
use Rattle.ge_model_order.specs.Orders.{order_at}
use Rattle.ge_model_place.proofs.Decided.{run_of_is_run}
use Rattle.ge_model_place.proofs.Laws.{decides_each}
use Rattle.ge_model_place.proofs.Sums.{run_keeps_limits}
use Rattle.ge_model_core.specs.Scheduling.{decisions_at, sched_plan}
use Rattle.ge_scheduling.proofs.Sound.{holds_of_it, run_reserves_early}
use Rattle.ge_dispatching.specs.Dispatching.{Dispatches}

pub plan_dispatches : (c : Cluster) (e : Event) → Dispatches c e (sched_plan c e)
unfolding sched_plan decisions_at
plan_dispatches c e =
    let tasks = order_at c e.moment in
    record {
      decisions = decisions_at c e.moment;
      told = refl;
      each = decides_each c e.moment tasks (decisions_at c e.moment) (run_of_is_run c e.moment tasks);
      once = λ ordered. each_once_if_eligible c ordered e.moment;
      falling = λ ordered. order_sorted c ordered e.moment;
      run = run_of_is_run c e.moment tasks;
      limits = run_keeps_limits c tasks e.moment;
      earliest = run_reserves_early c e.moment tasks;
    }

-- what is the model's plan dispatches so
pub dispatches_if : {E : Type 0} (c : Cluster) (e : Event) (result : Result Planned E) → IfOk result (λ planned. planned ≡ sched_plan c e) → IfOk result (λ planned. Dispatches c e planned)
dispatches_if c e result is = holds_of_it (Dispatches c e) (sched_plan c e) result is (plan_dispatches c e)
