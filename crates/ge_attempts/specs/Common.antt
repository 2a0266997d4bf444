-- Limits that one slot of a job counts for at whatever instance.
use Rattle.std.specs.Prelude.{◌≡◌, ℕ, ◌+◌, Bool, true, false, not, ◌&&◌, ◌||◌, is_some, nat_lt, nat_le, min, List}
use Rattle.std.specs.List.{list_any}
use Rattle.ge_model_rows.specs.ClusterRows.{Cluster}
use Rattle.ge_model_rows.specs.HostRows.{Groups, InstanceId}
use Rattle.ge_model_rows.specs.JobRows.{Job}
use Rattle.ge_model_rows.specs.QuotaRows.{QuotaRow, Rule}
use Rattle.ge_model_rows.specs.ScheduleRows.{LimitId, Instance, Host, Global, Pe, Quota, Booking}
use Rattle.ge_model_rows.specs.ScheduleRows.{Advance as Booked}
use Rattle.ge_model_place.specs.Demands.{counts_for}
use Rattle.ge_model_place.specs.Limits.{greatest_demand, capacity_of, per_slot, resource_of}
use Rattle.ge_capacities.specs.declared.counting.Counted.{Counted}
use Rattle.ge_timeline.specs.Looks.{window_peak}

-- whether a rule of a quota looks at queues or hosts: sge_resource_quota
abbrev pub names_places : Rule → Bool
names_places rule = is_some rule.queues || is_some rule.hosts

abbrev pub set_names_places : List ℕ × QuotaRow → Bool
set_names_places set = list_any names_places set.1.rules

-- whether quotas count a job alike at each instance: none of their rules looks at queues or hosts
abbrev pub counts_alike : Cluster → Bool
counts_alike c = not (list_any set_names_places c.quotas)

-- whether what counts for a limit at one instance does at each: not the limits of an instance or its host, nor the slots of a reservation
abbrev pub is_common : Bool → LimitId → Bool
is_common alike (Instance at name) = false
is_common alike (Host host name) = false
is_common alike (Global name) = true
is_common alike (Pe name) = true
is_common alike (Quota key) = alike
is_common alike (Booked number at) = false

-- whether a limit has no room for one slot in a window
abbrev pub lacks_room : List Booking → ℕ → ℕ → Counted → Bool
lacks_room booked from until counted = not (nat_le (window_peak booked counted.limit from until + min counted.amount greatest_demand) counted.capacity)

-- whether a limit that counts everywhere has none
abbrev pub is_exhausted : Bool → List Booking → ℕ → ℕ → Counted → Bool
is_exhausted alike booked from until counted = is_common alike counted.limit && lacks_room booked from until counted

-- whether one of some limits is so, in a window with a moment
abbrev pub rules_out : Bool → List Booking → ℕ → ℕ → List Counted → Bool
rules_out alike booked from until limits = nat_lt from until && list_any (is_exhausted alike booked from until) limits

module _ (c : Cluster) (groups : Groups) (job : Job) where
  -- one slot of a job asks something of a limit at some instance; where the limit is common, it does at whatever instance
  pub record IsAsked (x : Counted) : Type 0 where
    pub everywhere : is_common (counts_alike c) x.limit ≡ true → (at : InstanceId) → counts_for c groups job x.limit (record { at = at; slots = 1 }) ≡ true
    pub capacity : x.capacity ≡ capacity_of c groups x.limit
    pub asks : x.amount ≡ per_slot c job (resource_of x.limit)
    pub some : x.amount ≡ 0 → ⊥
