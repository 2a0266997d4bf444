-- Limits, capacities and demands.
use Rattle.std.specs.Prelude.{ℕ, ◌+◌, ◌-◌, ◌*◌, ◌^◌, ◌==◌, Bool, true, false, not, cond, if◌then◌else◌, min, List, [], ◌∷◌, ◌++◌, map, flat_map, filter, fold, Option, Some, None, slice_get, sum_by, ◌&&◌}
use Rattle.std.specs.List.{list_any}
use Rattle.std.specs.Map.{keys_of}
use Rattle.ge_collections.specs.Keyed.{text_eq, at_text, at_number}
use Rattle.ge_model_place.specs.Bookings.{same_instance, same_limit}
use Rattle.ge_model_jobs.specs.Accounts.{pe_name}
use Rattle.ge_model_rows.specs.Queues.{attr_at, slots_at}
use Rattle.ge_model_rows.specs.Complexes.{complex_at, is_consumable}
use Rattle.ge_model_rows.specs.Values.{amount_in}
use Rattle.ge_model_rows.specs.ClusterRows.{Cluster}
use Rattle.ge_model_rows.specs.HostRows.{HostRow, Groups, InstanceId}
use Rattle.ge_model_rows.specs.JobRows.{Job, PeRequest, Grant, Advance}
use Rattle.ge_model_rows.specs.PeRows.{PeRow}
use Rattle.ge_model_rows.specs.QueueRows.{QueueRow}
use Rattle.ge_model_rows.specs.QuotaRows.{QuotaRow, Rule}
use Rattle.ge_model_rows.specs.ScheduleRows.{LimitId, Instance, Host, Global, Pe, Quota}
use Rattle.ge_model_rows.specs.ScheduleRows.{Advance as Booked, QuotaKey, Demand}
use Rattle.ge_model_rows.specs.ValueRows.{Value, Consumable, ComplexDef}
use Rattle.ge_model_place.specs.Opening.{slots_name, global_name}
use Rattle.ge_model_place.specs.Quotas.{Who, quota_keys}

-- a limit that a grant at an instance counts for: its capacity, what one slot of the job asks of it, and whether all grants of the job together ask that once
pub record Counted : Type 0 where
  pub limit : LimitId
  pub capacity : ℕ
  pub amount : ℕ
  pub once : Bool

-- the greatest demand on one limit
abbrev pub greatest_demand : ℕ
greatest_demand = 2 ^ 64 - 1

-- what a limit counts
abbrev pub resource_of : LimitId → List ℕ
resource_of (Instance at name) = name
resource_of (Host host name) = name
resource_of (Global name) = name
resource_of (Pe name) = slots_name
resource_of (Quota key) = key.resource
resource_of (Booked number at) = slots_name

-- capacities

abbrev pub amount_or_none : Option Value → ℕ
amount_or_none None = 0
amount_or_none (Some value) = amount_in value

abbrev pub capacity_in : Groups → InstanceId → List ℕ → Option QueueRow → ℕ
capacity_in groups at name None = 0
capacity_in groups at name (Some q) = if text_eq name slots_name then slots_at q groups at.host else amount_or_none (at_text (attr_at q.values groups at.host) name)

abbrev pub capacity_on : List ℕ → Option HostRow → ℕ
capacity_on name None = 0
capacity_on name (Some row) = amount_or_none (at_text row.values name)

abbrev pub pe_capacity : Option PeRow → ℕ
pe_capacity None = 0
pe_capacity (Some pe) = pe.slots

abbrev pub number_or_none : Option ℕ → ℕ
number_or_none None = 0
number_or_none (Some n) = n

abbrev pub rule_capacity : List ℕ → Option Rule → ℕ
rule_capacity resource None = 0
rule_capacity resource (Some rule) = number_or_none (at_text rule.limits resource)

abbrev pub quota_capacity : QuotaKey → Option QuotaRow → ℕ
quota_capacity key None = 0
quota_capacity key (Some row) = rule_capacity key.resource (slice_get row.rules (key.rule - 1))

-- the slots that a reservation has at an instance; none where it isn't there
abbrev pub advance_capacity : InstanceId → Option Advance → ℕ
advance_capacity at None = 0
advance_capacity at (Some booked) = sum_by (λ grant. grant.slots) (filter (λ grant. same_instance grant.at at) booked.grants)

-- how much of a limit there is: what is configured at the instance, the host or for all, a PE's slots, what a quota rule says, what a reservation was granted
abbrev pub capacity_of : Cluster → Groups → LimitId → ℕ
capacity_of c groups (Instance at name) = capacity_in groups at name (at_text c.queues at.queue)
capacity_of c groups (Host host name) = capacity_on name (at_text c.hosts host)
capacity_of c groups (Global name) = capacity_on name (at_text c.hosts global_name)
capacity_of c groups (Pe name) = pe_capacity (at_text c.pes name)
capacity_of c groups (Quota key) = quota_capacity key (at_text c.quotas key.set)
capacity_of c groups (Booked number at) = advance_capacity at (at_number c.advances number)

-- the limits that a grant counts for

-- the consumables that a table of values names
abbrev pub consumables : Cluster → List (List ℕ × Value) → List (List ℕ)
consumables c values = filter (is_consumable c) (keys_of values)

-- slots are the queue's, whatever its values say
abbrev pub is_other : List ℕ → Bool
is_other name = not (text_eq name slots_name)

-- the limits of an instance: the consumables of its values, and its slots: queue_conf, complex_values and slots
abbrev pub instance_limits : Cluster → Groups → InstanceId → Option QueueRow → List LimitId
instance_limits c groups at None = []
instance_limits c groups at (Some q) = map (Instance at) (filter is_other (consumables c (attr_at q.values groups at.host))) ++ Instance at slots_name ∷ []

-- the limits of a host, and those of the host of all: host_conf, complex_values
abbrev pub host_limits : Cluster → (List ℕ → LimitId) → Option HostRow → List LimitId
host_limits c limit None = []
host_limits c limit (Some row) = map limit (consumables c row.values)

-- the limit of a PE's slots: sge_pe, slots
abbrev pub pe_limits : Option PeRequest → List LimitId
pe_limits None = []
pe_limits (Some request) = Pe request.name ∷ []

-- who asks, where a job's grant is at an instance
abbrev pub who_at : Job → InstanceId → Who
who_at job at = record { user = job.owner; group = job.group; project = job.project; pe = pe_name job.request.pe; queue = at.queue; host = at.host }

-- the limits of an instance, of its host, of all hosts, of a job's PE and of the quotas that count it there
abbrev pub configured_limits : Cluster → Groups → Job → InstanceId → List LimitId
configured_limits c groups job at =
    instance_limits c groups at (at_text c.queues at.queue) ++ host_limits c (Host at.host) (at_text c.hosts at.host) ++ host_limits c Global (at_text c.hosts global_name)
    ++ pe_limits job.request.pe ++ map Quota (quota_keys c groups (who_at job at))

-- the limits that a job's grant at an instance counts for: all that are configured there, or the slots of the reservation that it is sent into, alone: qsub, -ar
abbrev pub limits_at : Cluster → Groups → Job → InstanceId → List LimitId
limits_at c groups job at = if job.advance == 0 then configured_limits c groups job at else Booked job.advance at ∷ []

-- the limits with one more, unless it is there
abbrev pub with_limit_once : List LimitId → LimitId → List LimitId
with_limit_once limits limit = if list_any (same_limit limit) limits then limits else limits ++ limit ∷ []

-- each limit once
abbrev pub each_limit_once : List LimitId → List LimitId
each_limit_once limits = fold with_limit_once [] limits

-- what a job asks of a consumable for one slot

abbrev pub default_amount : Option ComplexDef → ℕ
default_amount None = 0
default_amount (Some complex) = amount_in complex.fallback

abbrev pub asked_or_default : Cluster → List ℕ → Option Value → ℕ
asked_or_default c name None = default_amount (complex_at c name)
asked_or_default c name (Some value) = amount_in value

-- what the job requests, or else the complex's default; one of slots, and nothing of what is no consumable: complex, consumable and default
abbrev pub per_slot : Cluster → Job → List ℕ → ℕ
per_slot c job name = if text_eq name slots_name then 1 else (if is_consumable c name then asked_or_default c name (at_text job.request.asked name) else 0)

abbrev pub is_job : Consumable → Bool
is_job Consumable.No = false
is_job Consumable.Yes = false
is_job Consumable.Job = true

abbrev pub is_consumed_once : Option ComplexDef → Bool
is_consumed_once None = false
is_consumed_once (Some complex) = is_job complex.consumable

-- whether a job consumes an attribute once, and not for each slot: complex, consumable; slots are counted one by one
abbrev pub is_per_job : Cluster → List ℕ → Bool
is_per_job c name = is_other name && is_consumed_once (complex_at c name)

abbrev pub counted_with : Cluster → Groups → LimitId → ℕ → List Counted
counted_with c groups limit amount = cond (amount == 0) [] (record { limit = limit; capacity = capacity_of c groups limit; amount = amount; once = is_per_job c (resource_of limit) } ∷ [])

abbrev pub counted : Cluster → Groups → Job → LimitId → List Counted
counted c groups job limit = counted_with c groups limit (per_slot c job (resource_of limit))

-- the limits that a grant of a job at an instance counts for, each with an amount above 0
unfoldable pub counted_at : Cluster → Groups → Job → InstanceId → List Counted
counted_at c groups job at = flat_map (counted c groups job) (each_limit_once (limits_at c groups job at))

-- demands

-- what slots ask of a limit: its amount for each of them, or once
abbrev pub asked_by : ℕ → Counted → ℕ
asked_by slots counted = if counted.once then counted.amount else slots * counted.amount

abbrev pub demand_for : ℕ → Counted → Demand
demand_for slots counted = record { limit = counted.limit; amount = min (asked_by slots counted) greatest_demand }

-- a demand with what more slots ask of the same limit; what is asked once is in it already
abbrev pub with_more : ℕ → Counted → Demand → Demand
with_more slots counted d = if counted.once then d else record d { amount = min (d.amount + (demand_for slots counted).amount) greatest_demand }

-- the demands with what slots ask of one more limit, which is added to that on the same limit
abbrev pub with_demand : ℕ → List Demand → Counted → List Demand
with_demand slots [] counted = demand_for slots counted ∷ []
with_demand slots (d ∷ demands) counted =
    elim (same_limit d.limit counted.limit) [
      | true ↦ with_more slots counted d ∷ demands
      | false ↦ d ∷ with_demand slots demands counted
    ]

-- the demands with those of one more grant; a demand of nothing is none
abbrev pub with_grant : Cluster → Groups → Job → List Demand → Grant → List Demand
with_grant c groups job demands grant = cond (grant.slots == 0) demands (fold (with_demand grant.slots) demands (counted_at c groups job grant.at))

-- what grants of a job ask of each limit, each limit once, in the order in which the grants come to it
unfoldable pub demands_of : Cluster → Groups → Job → List Grant → List Demand
demands_of c groups job grants = fold (with_grant c groups job) [] grants
