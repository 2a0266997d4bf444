-- What a run stands on before its first decision, whatever the order of its tasks.
use Rattle.std.specs.Prelude.{◌≡◌, ℕ, Bool, not, ◌&&◌, nat_lt, List, map, filter}
use Rattle.std.specs.List.{list_any}
use Rattle.ge_model_rows.specs.ClusterRows.{Cluster}
use Rattle.ge_model_rows.specs.DecisionRows.{Skip}
use Rattle.ge_model_rows.specs.JobRows.{Job}
use Rattle.ge_model_rows.specs.TaskRows.{TaskId}
use Rattle.ge_model_rows.specs.Pieces.{is_empty}
use Rattle.ge_model_rows.specs.Groups.{expanded}
use Rattle.ge_model_place.specs.InstanceOrder.{instance_order}
use Rattle.ge_model_place.specs.Running.{run_of}
use Rattle.ge_model_place.specs.Windows.{base_bookings}
use Rattle.ge_scheduling.specs.declared.basis.Basis.{Basis}
use Rattle.ge_attempts.specs.Vacant.{is_vacant}

-- a basis is that of a cluster at its moment: sched_conf
pub record IsBasis (c : Cluster) (basis : Basis) : Type 0 where
  pub spelled : basis.groups ≡ expanded c
  pub ordered : basis.order ≡ instance_order c basis.groups
  pub taken : basis.booked ≡ base_bookings c basis.groups basis.moment
  pub left : basis.vacant ≡ filter (is_vacant c basis.groups basis.moment basis.booked) basis.order

-- whether a job asks for slots to be kept for its tasks: qsub, -R
abbrev pub asks_to_keep : ℕ × Job → Bool
asks_to_keep row = row.1.reserve

-- whether a task may have slots kept in a run in which so many have some: sched_conf, max_reservation; qsub, -R
abbrev pub may_keep : Cluster → ℕ → Bool
may_keep c reserved = nat_lt reserved c.sched.max_reservation && list_any asks_to_keep c.jobs

-- whether no task can start or have slots kept on a basis: no instance has a slot left, and there is no reservation that a job may be sent into
abbrev pub is_shut : Cluster → Basis → Bool
is_shut c basis = is_empty basis.vacant && is_empty c.advances && not (may_keep c 0)

-- each task waits in a run at a moment, in whatever order the tasks are
abbrev pub AllWait : Cluster → ℕ → Type 0
AllWait c now = (tasks : List TaskId) → run_of c tasks now ≡ map (λ task. Skip task) tasks
