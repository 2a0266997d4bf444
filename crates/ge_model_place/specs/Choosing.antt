-- Placement in its own words: for a number of slots the repeated choice of a rule, and of the numbers that are asked for
-- the greatest that has one.
use Rattle.std.specs.Prelude.{◌≡◌, ℕ, zero, suc, ◌+◌, ◌/◌, ◌%◌, ◌==◌, ◌≤◌, ◌<◌, Bool, true, false, ◌&&◌, not, List, [], ◌∷◌, ◌++◌, map, filter, fold, Option, Some, None, option_map}
use Rattle.ge_model_rows.specs.Pieces.{each_once}
use Rattle.std.specs.List.{list_all}
use Rattle.std.specs.Prelude.{nat_le}
use Rattle.ge_model_place.specs.Bookings.{plain_sum}
use Rattle.ge_model_rows.specs.ClusterRows.{Cluster}
use Rattle.ge_model_rows.specs.HostRows.{Groups, InstanceId}
use Rattle.ge_model_rows.specs.JobRows.{Job, PeRequest, Grant}
use Rattle.ge_model_rows.specs.PeRows.{PeRow, Allocation, Fixed, PeSlots, FillUp, RoundRobin}
use Rattle.ge_model_rows.specs.ScheduleRows.{Demand, Booking}
use Rattle.ge_model_rows.specs.TaskRows.{TaskId}
use Rattle.ge_collections.specs.Keyed.{at_text, at_number}
use Rattle.ge_model_place.specs.Limits.{capacity_of, demands_of}
use Rattle.ge_model_place.specs.Windows.{window_end_from, is_in_time}
use Rattle.ge_model_place.specs.Placement.{are_open, everywhere, is_on, are_admissible, placement}

-- no slot of any instance yet
abbrev pub no_slots : List InstanceId → List Grant
no_slots order = map (λ at. record { at = at; slots = 0 }) order

-- the grants: where there is a slot
abbrev pub has_slots : Grant → Bool
has_slots grant = not (grant.slots == 0)

abbrev pub grants_in : List Grant → List Grant
grants_in slots = filter has_slots slots

-- one more slot of an instance
abbrev pub one_slot_more : Grant → Grant
one_slot_more grant = record grant { slots = grant.slots + 1 }

module _ (c : Cluster) (groups : Groups) (job : Job) (bookings : List Booking) (from : ℕ) where
  -- whether there is room for a demand at a moment
  abbrev pub has_room_at : ℕ → Demand → Bool
  has_room_at moment demand = nat_le (plain_sum bookings demand.limit moment + demand.amount) (capacity_of c groups demand.limit)

  -- what admissible grants are: the job's reservation lasts where it is sent into one, the instances are open, and at each moment of the window there is room for all that they ask
  pub record AreAdmissible (grants : List Grant) : Type 0 where
    pub in_time : is_in_time c job from ≡ true
    pub opened : are_open c groups job grants ≡ true
    pub room : (moment : ℕ) → from ≤ moment → moment < window_end_from c job from → list_all (has_room_at moment) (demands_of c groups job grants) ≡ true

  -- one more slot at the first of the last instances that is one of these, and at which the grants so far and it are admissible
  abbrev pub chosen_from : (InstanceId → Bool) → List Grant → List Grant → Option (List Grant)
  chosen_from here before [] = None
  chosen_from here before (grant ∷ behind) =
      elim (here grant.at && are_admissible c groups job bookings from (grants_in (before ++ one_slot_more grant ∷ behind))) [
        | true ↦ Some (before ++ one_slot_more grant ∷ behind)
        | false ↦ chosen_from here (before ++ grant ∷ []) behind
      ]

  abbrev pub chosen : (InstanceId → Bool) → List Grant → Option (List Grant)
  chosen here slots = chosen_from here [] slots

  -- so many slots at these instances, one after the other
  abbrev pub chosen_times : (InstanceId → Bool) → ℕ → List Grant → Option (List Grant)
  chosen_times here zero slots = Some slots
  chosen_times here (suc more) slots = elim (chosen here slots) [ None ↦ None | Some next ↦ chosen_times here more next ]

  -- all of them on the first host that takes them: sge_pe, $pe_slots
  abbrev pub on_first_host : ℕ → List (List ℕ) → List Grant → Option (List Grant)
  on_first_host count [] slots = None
  on_first_host count (host ∷ hosts) slots = elim (chosen_times (is_on host) count slots) [ None ↦ on_first_host count hosts slots | Some done ↦ Some done ]

  -- so many blocks of one size, on the first hosts that take a whole one: sge_pe, a number
  abbrev pub in_first_blocks : ℕ → ℕ → List (List ℕ) → List Grant → Option (List Grant)
  in_first_blocks size zero hosts slots = Some slots
  in_first_blocks size (suc blocks) [] slots = None
  in_first_blocks size (suc blocks) (host ∷ hosts) slots =
      elim (chosen_times (is_on host) size slots) [ None ↦ in_first_blocks size (suc blocks) hosts slots | Some next ↦ in_first_blocks size blocks hosts next ]

  -- one slot on each host that takes one, until so many are left: what is left, and the slots
  abbrev pub taking_turn : ℕ × List Grant → List ℕ → ℕ × List Grant
  taking_turn left host = elim (left.0) [ zero ↦ left | suc fewer ↦ elim (chosen (is_on host) left.1) [ None ↦ left | Some next ↦ (fewer, next) ] ]

  -- rounds, until none are left or a round gives nothing: sge_pe, $round_robin
  abbrev pub in_rounds : ℕ → List (List ℕ) → ℕ × List Grant → Option (List Grant)
  in_rounds zero hosts left = elim (left.0 == 0) [ true ↦ Some left.1 | false ↦ None ]
  in_rounds (suc rounds) hosts left = in_rounds rounds hosts (fold taking_turn left hosts)

  -- the slots of a number of them by a rule
  abbrev pub chosen_by : Allocation → ℕ → List (List ℕ) → List Grant → Option (List Grant)
  chosen_by FillUp count hosts slots = chosen_times everywhere count slots
  chosen_by PeSlots count hosts slots = on_first_host count hosts slots
  chosen_by (Fixed size) count hosts slots = elim (count % size == 0) [ true ↦ in_first_blocks size (count / size) hosts slots | false ↦ None ]
  chosen_by RoundRobin count hosts slots = in_rounds count hosts (count, slots)

  -- the grants of a number of slots by a rule, in the order of instances
  abbrev pub grants_by : List InstanceId → Allocation → ℕ → Option (List Grant)
  grants_by order rule count = option_map grants_in (chosen_by rule count (each_once (map (λ at. at.host) order)) (no_slots order))

  -- grants of the greatest number of slots in a range that has some
  pub record AreGreatest (order : List InstanceId) (rule : Allocation) (low high : ℕ) (grants : List Grant) : Type 0 where
    pub count : ℕ
    pub some : 1 ≤ count
    pub enough : low ≤ count
    pub within : count ≤ high
    pub are : grants_by order rule count ≡ Some grants
    pub no_more : (more : ℕ) → count < more → more ≤ high → grants_by order rule more ≡ None

  -- no number of slots in a range has grants
  abbrev pub NoneInRange : List InstanceId → Allocation → ℕ → ℕ → Type 0
  NoneInRange order rule low high = (count : ℕ) → 1 ≤ count → low ≤ count → count ≤ high → grants_by order rule count ≡ None

  -- what a placement is: the grants of the greatest number, or there are none
  abbrev pub IsPlacedBy : List InstanceId → Allocation → ℕ → ℕ → Option (List Grant) → Type 0
  IsPlacedBy order rule low high None = NoneInRange order rule low high
  IsPlacedBy order rule low high (Some grants) = AreGreatest order rule low high grants

-- where a PE is there, its rule places; a task of one that isn't there has no placement
abbrev pub PlacesRow : Cluster → Groups → List InstanceId → List Booking → ℕ → Job → PeRequest → Option PeRow → Option (List Grant) → Type 0
PlacesRow c groups order bookings from job request None grants = grants ≡ None
PlacesRow c groups order bookings from job request (Some pe) grants = IsPlacedBy c groups job bookings from order pe.rule request.low request.high grants

-- a task of a job without a PE has one slot, at the first instance that takes it
abbrev pub PlacesRequest : Cluster → Groups → List InstanceId → List Booking → ℕ → Job → Option PeRequest → Option (List Grant) → Type 0
PlacesRequest c groups order bookings from job None grants = IsPlacedBy c groups job bookings from order FillUp 1 1 grants
PlacesRequest c groups order bookings from job (Some request) grants = PlacesRow c groups order bookings from job request (at_text c.pes request.name) grants

-- a task whose job isn't there has none
abbrev pub PlacesJob : Cluster → Groups → List InstanceId → List Booking → ℕ → Option Job → Option (List Grant) → Type 0
PlacesJob c groups order bookings from None grants = grants ≡ None
PlacesJob c groups order bookings from (Some job) grants = PlacesRequest c groups order bookings from job job.request.pe grants

-- the placement of a task is that of the rule in its own words
abbrev pub PlacesTask : Cluster → Groups → List InstanceId → List Booking → TaskId → ℕ → Type 0
PlacesTask c groups order bookings task from = PlacesJob c groups order bookings from (at_number c.jobs task.job) (placement c groups order bookings task from)
