-- The slots that are taken at an instance, looked up, and its line with them.
use Rattle.std.specs.Prelude.{ℕ, min, if◌then◌else◌, List, ◌∷◌, [], ◌++◌, Option, Some, None, unwrap_or, codes, decimal}
use Rattle.std.specs.BTreeMap.{is_at}
use Rattle.std.specs.Map.{lookup}
use Rattle.std.specs.Ordering.{ordering_then}
use Rattle.std.specs.declared.cmp.Ordering.{Ordering}
use Rattle.ge_collections.specs.Keyed.{at_text, text_cmp, text_eq}
use Rattle.ge_model_place.specs.Bookings.{greatest_sum}
use Rattle.ge_model_rows.specs.ClusterRows.{Cluster}
use Rattle.ge_model_rows.specs.HostRows.{Groups, InstanceId}
use Rattle.ge_model_rows.specs.ScheduleRows.{LimitId, Instance, Host, Global, Pe, Quota, Advance}
use Rattle.ge_model_place.specs.InstanceOrder.{load_at}
use Rattle.ge_model_report.specs.Grants.{instance_text, worded}
use Rattle.ge_model_report.specs.QueueLines.{load_text, row_slots, state_text}

-- the order of instances: by queue, then by host
abbrev pub instance_cmp : InstanceId → InstanceId → Ordering
instance_cmp a b = ordering_then (text_cmp a.queue b.queue) (text_cmp a.host b.host)

-- the limit of the slots of an instance
abbrev pub slots_of : InstanceId → LimitId
slots_of at = Instance at (codes "slots")

-- the instance whose slots a limit counts, if it counts those of one
abbrev pub counted_instance : LimitId → Option InstanceId
counted_instance (Instance at name) = if text_eq name (codes "slots") then Some at else None
counted_instance (Host host name) = None
counted_instance (Global name) = None
counted_instance (Pe name) = None
counted_instance (Quota key) = None
counted_instance (Advance number at) = None

-- the slots that a table has at an instance, cut as sums are
abbrev pub slots_taken : List (InstanceId × ℕ) → InstanceId → ℕ
slots_taken entries at = min (unwrap_or (lookup (is_at (instance_cmp at)) entries) 0) greatest_sum

-- taken slots of all slots
abbrev pub slots_with : Cluster → Groups → ℕ → InstanceId → List ℕ
slots_with c groups taken at = decimal taken ++ codes "/" ++ decimal (row_slots groups at (at_text c.queues at.queue))

-- the line of an instance where so many slots are taken
abbrev pub line_with : Cluster → Groups → ℕ → InstanceId → List ℕ
line_with c groups taken at = worded (instance_text at ∷ slots_with c groups taken at ∷ load_text c (load_at c at.host) ∷ state_text c groups at ∷ [])
