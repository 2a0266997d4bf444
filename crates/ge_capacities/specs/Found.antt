-- What was found so far of the limits that a grant counts for: what counts of each, without the limits of which nothing is asked.
use Rattle.std.specs.Prelude.{◌≡◌, ℕ, Bool, false, cond, List, [], ◌∷◌, ◌++◌, Option, Some, None, position}
use Rattle.std.specs.Map.{lookup, keys_of}
use Rattle.std.specs.List.{list_any}
use Rattle.std.specs.List.Sorted.{IsStrictlySortedBy}
use Rattle.ge_collections.specs.Keyed.{text_eq, text_cmp, at_text}
use Rattle.ge_model_place.specs.Bookings.{same_limit}
use Rattle.ge_model_rows.specs.Values.{amount_in}
use Rattle.ge_model_rows.specs.ClusterRows.{Cluster}
use Rattle.ge_model_rows.specs.HostRows.{Groups, HostRow, InstanceId}
use Rattle.ge_model_rows.specs.JobRows.{Job}
use Rattle.ge_model_rows.specs.QueueRows.{QueueRow}
use Rattle.ge_model_rows.specs.ScheduleRows.{LimitId, Instance, Host, Global, Demand}
use Rattle.ge_model_rows.specs.ValueRows.{Value, ComplexDef}
use Rattle.ge_model_place.specs.Limits.{Counted as Limited, capacity_of, counted, instance_limits, host_limits, pe_limits}
use Rattle.ge_model_place.specs.Opening.{global_name, slots_name}
use Rattle.ge_model_rows.specs.Queues.{attr_at}

-- what is asked of a consumable for one slot, or else its default
abbrev pub amount_or_default : ComplexDef → Option Value → ℕ
amount_or_default complex None = amount_in complex.fallback
amount_or_default complex (Some value) = amount_in value

-- whether a limit was found
abbrev pub is_found : List Limited → LimitId → Bool
is_found found limit = list_any (λ more. same_limit limit more.limit) found

-- what counts of a limit, behind what was found, unless the limit was
abbrev pub found_with : List Limited → List Limited → List Limited
found_with found [] = found
found_with found (more ∷ rest) = cond (is_found found more.limit) found (found ++ more ∷ [])

-- what was found, with what counts of one more limit of a job's grant
abbrev pub with_limit : Cluster → Groups → Job → List Limited → LimitId → List Limited
with_limit c groups job found limit = found ++ counted c groups job limit

-- the same, unless the limit was found
abbrev pub with_limit_unless_found : Cluster → Groups → Job → List Limited → LimitId → List Limited
with_limit_unless_found c groups job found limit = found_with found (counted c groups job limit)

-- the same of a name that an instance has a value for; its slots are a limit whatever the values say
abbrev pub with_instance_value : Cluster → Groups → Job → InstanceId → List Limited → List ℕ → List Limited
with_instance_value c groups job at found name = cond (text_eq name slots_name) found (with_limit c groups job found (Instance at name))

-- the same of a name that a host has a value for
abbrev pub with_host_value : Cluster → Groups → Job → (List ℕ → LimitId) → List Limited → List ℕ → List Limited
with_host_value c groups job limit found name = with_limit c groups job found (limit name)

-- the limits by name, and that of a job's parallel environment: no two of them are one
abbrev pub named_limits : Cluster → Groups → Job → InstanceId → List LimitId
named_limits c groups job at =
    instance_limits c groups at (at_text c.queues at.queue) ++ host_limits c (Host at.host) (at_text c.hosts at.host) ++ host_limits c Global (at_text c.hosts global_name) ++ pe_limits job.request.pe

-- the names that a table of values has rise
abbrev pub AreRising : List (List ℕ × Value) → Type 0
AreRising values = IsStrictlySortedBy text_cmp (keys_of values)

-- those of an instance
abbrev pub AreRisingAt : Groups → InstanceId → Option QueueRow → Type 0
AreRisingAt groups at None = Unit {0}
AreRisingAt groups at (Some queue) = AreRising (attr_at queue.values groups at.host)

-- those of a host
abbrev pub AreRisingOn : Option HostRow → Type 0
AreRisingOn None = Unit {0}
AreRisingOn (Some row) = AreRising row.values

-- those that the named limits have
abbrev pub AllRise : Cluster → Groups → InstanceId → Type 0
AllRise c groups at = AreRisingAt groups at (at_text c.queues at.queue) × AreRisingOn (at_text c.hosts at.host) × AreRisingOn (at_text c.hosts global_name)

-- there is as much of the limit of a name as the value has that stands at the name
abbrev pub HasAmount : Cluster → Groups → (List ℕ → LimitId) → List ℕ × Value → Type 0
HasAmount c groups limit entry = capacity_of c groups (limit entry.0) ≡ amount_in entry.1

-- the same of an instance, of any name but that of slots
abbrev pub HasOtherAmount : Cluster → Groups → InstanceId → List ℕ × Value → Type 0
HasOtherAmount c groups at entry = text_eq entry.0 slots_name ≡ false → HasAmount c groups (Instance at) entry

-- whether a demand is on a limit
abbrev pub is_on : LimitId → Demand → Bool
is_on limit demand = same_limit demand.limit limit

-- the places of the demands are kept, each under its limit
abbrev pub AreKept : List (LimitId × ℕ) → List Demand → Type 0
AreKept places demands = (limit : LimitId) → lookup (same_limit limit) places ≡ position (is_on limit) demands
