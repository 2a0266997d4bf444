-- The lines of qstat -f: the queue instances.
use Rattle.std.specs.Prelude.{ℕ, if◌then◌else◌, List, [], ◌∷◌, ◌++◌, map, Option, Some, None, codes, decimal}
use Rattle.ge_collections.specs.Keyed.{at_text}
use Rattle.ge_model_rows.specs.ClusterRows.{Cluster}
use Rattle.ge_model_rows.specs.HostRows.{Groups, InstanceId}
use Rattle.ge_model_rows.specs.QueueRows.{QueueRow}
use Rattle.ge_model_rows.specs.ScheduleRows.{Instance, Booking}
use Rattle.ge_model_rows.specs.Complexes.{kind_for}
use Rattle.ge_model_rows.specs.Values.{amount_text}
use Rattle.ge_model_rows.specs.Groups.{expanded}
use Rattle.ge_model_rows.specs.Queues.{instances_of, slots_at}
use Rattle.ge_model_place.specs.Bookings.{plain_sum}
use Rattle.ge_model_place.specs.InstanceOrder.{load_at}
use Rattle.ge_model_place.specs.Opening.{reaches_threshold}
use Rattle.ge_model_place.specs.Windows.{base_bookings}
use Rattle.ge_model_report.specs.Grants.{instance_text, worded}

-- the slots of an instance that running tasks and advance reservations take now
abbrev pub used_slots : List Booking → ℕ → InstanceId → ℕ
used_slots bookings now at = plain_sum bookings (Instance at (codes "slots")) now

abbrev pub row_slots : Groups → InstanceId → Option QueueRow → ℕ
row_slots groups at None = 0
row_slots groups at (Some queue) = slots_at queue groups at.host

-- taken slots of all slots
abbrev pub slots_text : Cluster → Groups → List Booking → ℕ → InstanceId → List ℕ
slots_text c groups bookings now at =
    decimal (used_slots bookings now at) ++ codes "/" ++ decimal (row_slots groups at (at_text c.queues at.queue))

-- the load that the host reports, as its complex is printed, or a dash (sched_conf, load_formula)
abbrev pub load_text : Cluster → Option ℕ → List ℕ
load_text c None = codes "-"
load_text c (Some amount) = amount_text (kind_for c c.sched.load_formula) amount

-- a where a load threshold is reached, else a dash
abbrev pub state_text : Cluster → Groups → InstanceId → List ℕ
state_text c groups at = if reaches_threshold c groups at then codes "a" else codes "-"

-- instance, slots, load and state
abbrev pub queue_line : Cluster → Groups → List Booking → ℕ → InstanceId → List ℕ
queue_line c groups bookings now at =
    worded (instance_text at ∷ slots_text c groups bookings now at ∷ load_text c (load_at c at.host) ∷ state_text c groups at ∷ [])

-- the instances by name of queue, then of host
abbrev pub queues_listing : Cluster → ℕ → List (List ℕ)
queues_listing c now =
    let groups = expanded c in
    let bookings = base_bookings c groups now in
    map (queue_line c groups bookings now) (instances_of c groups)
