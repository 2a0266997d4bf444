-- What grants of a job ask of a limit, in the rule's own words.
use Rattle.std.specs.Prelude.{◌≡◌, ℕ, ◌*◌, ◌==◌, Bool, if◌then◌else◌, min, List, sum_by}
use Rattle.std.specs.List.{list_any}
use Rattle.ge_model_rows.specs.ClusterRows.{Cluster}
use Rattle.ge_model_rows.specs.HostRows.{Groups}
use Rattle.ge_model_rows.specs.JobRows.{Job, Grant}
use Rattle.ge_model_rows.specs.ScheduleRows.{LimitId}
use Rattle.ge_model_place.specs.Bookings.{same_limit, demand_on}
use Rattle.ge_model_place.specs.Limits.{greatest_demand, limits_at, resource_of, per_slot, is_per_job, demands_of}

module _ (c : Cluster) (groups : Groups) (job : Job) (limit : LimitId) where
  -- whether a grant counts for the limit
  abbrev pub counts_for : Grant → Bool
  counts_for grant = list_any (λ other. same_limit other limit) (limits_at c groups job grant.at)

  -- the slots of the grants that count for it
  abbrev pub slots_for : List Grant → ℕ
  slots_for grants = sum_by (λ grant. if counts_for grant then grant.slots else 0) grants

  -- the amount for one slot, or else the one for the whole job, of so many slots
  abbrev pub amount_for : ℕ → ℕ
  amount_for slots = if slots == 0 then 0 else (if is_per_job c (resource_of limit) then per_slot c job (resource_of limit) else slots * per_slot c job (resource_of limit))

  -- what grants ask of the limit: for each slot that counts for it, or once where there is one
  abbrev pub IsDemand : List Grant → Type 0
  IsDemand grants = demand_on (demands_of c groups job grants) limit ≡ min (amount_for (slots_for grants)) greatest_demand

-- the demands of grants are that of each limit
abbrev pub DemandsEach : Cluster → Groups → Job → List Grant → Type 0
DemandsEach c groups job grants = (limit : LimitId) → IsDemand c groups job limit grants
