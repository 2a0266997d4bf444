-- Where a task is placed: slots are given one at a time, each at the first instance that takes one more.
use Rattle.std.specs.Prelude.{ℕ, zero, suc, ◌+◌, ◌*◌, ◌==◌, Bool, true, false, ◌&&◌, ◌||◌, cond, if◌then◌else◌, nat_lt, nat_le, min, max, List, [], ◌∷◌, map, fold, sum_by, filter_map, Option, Some, None, unwrap_or}
use Rattle.std.specs.List.{list_all}
use Rattle.std.specs.Option.{option_map}
use Rattle.ge_collections.specs.Keyed.{text_eq, at_text, at_number}
use Rattle.ge_model_place.specs.Bookings.{same_limit, peak}
use Rattle.ge_model_rows.specs.Pieces.{each_once}
use Rattle.ge_model_rows.specs.ClusterRows.{Cluster}
use Rattle.ge_model_rows.specs.HostRows.{Groups, InstanceId}
use Rattle.ge_model_rows.specs.JobRows.{Job, PeRequest, Grant}
use Rattle.ge_model_rows.specs.PeRows.{PeRow, Allocation, Fixed, PeSlots, FillUp, RoundRobin}
use Rattle.ge_model_rows.specs.ScheduleRows.{LimitId, Demand, Booking}
use Rattle.ge_model_rows.specs.TaskRows.{TaskId}
use Rattle.ge_model_place.specs.Limits.{Counted, greatest_demand, capacity_of, counted_at, demands_of}
use Rattle.ge_model_place.specs.Opening.{is_open}
use Rattle.ge_model_place.specs.Windows.{window_end_from, is_in_time}

-- whether there is room for a demand at each moment of a window
abbrev pub has_room : Cluster → Groups → List Booking → ℕ → ℕ → Demand → Bool
has_room c groups bookings from until demand = nat_le (peak bookings demand.limit from until + demand.amount) (capacity_of c groups demand.limit)

-- whether there is room for all of them; in a window without a moment there always is
abbrev pub have_room : Cluster → Groups → List Booking → ℕ → ℕ → List Demand → Bool
have_room c groups bookings from until demands = nat_le until from || list_all (has_room c groups bookings from until) demands

-- whether the instances of grants are open to a job
abbrev pub are_open : Cluster → Groups → Job → List Grant → Bool
are_open c groups job grants = list_all (λ grant. is_open c groups job grant.at) grants

-- whether grants are admissible from a moment on, over what is booked; of a job that is sent into a reservation only while that lasts
unfoldable pub are_admissible : Cluster → Groups → Job → List Booking → ℕ → List Grant → Bool
are_admissible c groups job bookings from grants = is_in_time c job from && are_open c groups job grants && have_room c groups bookings from (window_end_from c job from) (demands_of c groups job grants)

-- a limit that a slot at an instance counts for, with the most that is booked of it in the window
pub record Room : Type 0 where
  pub counted : Counted
  pub booked : ℕ

-- an instance while slots are given: whether it takes slots from that moment on, the limits that a slot there counts for, and the slots that it was given
pub record Cell : Type 0 where
  pub at : InstanceId
  pub opened : Bool
  pub rooms : List Room
  pub slots : ℕ

abbrev pub room_of : List Booking → ℕ → ℕ → Counted → Room
room_of bookings from until counted = record { counted = counted; booked = peak bookings counted.limit from until }

-- in a window without a moment nothing is counted
abbrev pub rooms_in : List Booking → ℕ → ℕ → List Counted → List Room
rooms_in bookings from until counted = if nat_lt from until then map (room_of bookings from until) counted else []

-- an instance before any slot is given
abbrev pub cell_of : Cluster → Groups → Job → List Booking → ℕ → InstanceId → Cell
cell_of c groups job bookings from at =
    record { at = at; opened = is_in_time c job from && is_open c groups job at; rooms = rooms_in bookings from (window_end_from c job from) (counted_at c groups job at); slots = 0 }

-- what one room counts of a limit for one slot
abbrev pub slot_asks : LimitId → Room → ℕ
slot_asks limit room = cond (same_limit room.counted.limit limit) room.counted.amount 0

-- what the slots of one instance ask of a limit
abbrev pub cell_asks : LimitId → Cell → ℕ
cell_asks limit cell = cond (cell.slots == 0) 0 (cell.slots * sum_by (slot_asks limit) cell.rooms)

-- what the slots given so far ask of a limit
abbrev pub asked_so_far : List Cell → LimitId → ℕ
asked_so_far cells limit = sum_by (cell_asks limit) cells

-- what one more slot and those given so far ask of a limit; what is asked once doesn't grow
abbrev pub asked_with_one : List Cell → Counted → ℕ
asked_with_one cells counted = if counted.once then counted.amount else asked_so_far cells counted.limit + counted.amount

-- whether a limit has room for one more slot beside those given so far
abbrev pub fits_one_more : List Cell → Room → Bool
fits_one_more cells room = nat_le (room.booked + min (asked_with_one cells room.counted) greatest_demand) room.counted.capacity

-- whether an instance takes one more slot beside those given so far
abbrev pub takes_one_more : List Cell → Cell → Bool
takes_one_more cells cell = cell.opened && list_all (fits_one_more cells) cell.rooms

-- one more slot at the first of the last cells that is one of these instances and takes it
abbrev pub with_slot : (InstanceId → Bool) → List Cell → List Cell → Option (List Cell)
with_slot here cells [] = None
with_slot here cells (cell ∷ rest) =
    elim (here cell.at && takes_one_more cells cell) [
      | true ↦ Some (record cell { slots = cell.slots + 1 } ∷ rest)
      | false ↦ option_map (λ more. cell ∷ more) (with_slot here cells rest)
    ]

-- one more slot at the first of these instances that takes it
abbrev pub next_slot : (InstanceId → Bool) → List Cell → Option (List Cell)
next_slot here cells = with_slot here cells cells

-- so many more slots at these instances, or as many as they take
abbrev pub filled : (InstanceId → Bool) → ℕ → List Cell → List Cell
filled here zero cells = cells
filled here (suc slots) cells = elim (next_slot here cells) [ None ↦ cells | Some more ↦ filled here slots more ]

-- how many slots were given
abbrev pub slots_given : List Cell → ℕ
slots_given cells = sum_by (λ cell. cell.slots) cells

abbrev pub everywhere : InstanceId → Bool
everywhere at = true

abbrev pub is_on : List ℕ → InstanceId → Bool
is_on host at = text_eq at.host host

-- the hosts in the order of their first instance
abbrev pub hosts_in : List Cell → List (List ℕ)
hosts_in cells = each_once (map (λ cell. cell.at.host) cells)

-- the first of both unless the second has more slots
abbrev pub fuller : List Cell → List Cell → List Cell
fuller best other = if nat_lt (slots_given best) (slots_given other) then other else best

-- all slots on the first host that takes the most: sge_pe, $pe_slots
abbrev pub on_one_host : ℕ → List Cell → List Cell
on_one_host high cells = fold (λ best host. fuller best (filled (is_on host) high cells)) cells (hosts_in cells)

-- a block of slots on a host, where all of them fit there and no more than the greatest number are given
abbrev pub with_block : ℕ → ℕ → List Cell → List Cell → List Cell
with_block size high cells more = if nat_le (slots_given cells + size) high && slots_given more == slots_given cells + size then more else cells

-- so many slots on each host that takes them: sge_pe, a number
abbrev pub in_blocks : ℕ → ℕ → List Cell → List Cell
in_blocks size high cells = fold (λ given host. with_block size high given (filled (is_on host) size given)) cells (hosts_in cells)

-- one slot on a host, where it takes one and the greatest number aren't given yet
abbrev pub with_turn : ℕ → List Cell → List ℕ → List Cell
with_turn high cells host = if nat_lt (slots_given cells) high then unwrap_or (next_slot (is_on host) cells) cells else cells

-- one slot on each host in turn
abbrev pub with_round : ℕ → List (List ℕ) → List Cell → List Cell
with_round high hosts cells = fold (with_turn high) cells hosts

-- so many rounds, or until one gives nothing
abbrev pub with_rounds : ℕ → ℕ → List (List ℕ) → List Cell → List Cell
with_rounds zero high hosts cells = cells
with_rounds (suc rounds) high hosts cells =
    let more = with_round high hosts cells in elim (slots_given more == slots_given cells) [ true ↦ cells | false ↦ with_rounds rounds high hosts more ]

-- at most so many slots by a rule: sge_pe, allocation_rule
abbrev pub spread : Allocation → ℕ → List Cell → List Cell
spread FillUp high cells = filled everywhere high cells
spread PeSlots high cells = on_one_host high cells
spread (Fixed size) high cells = in_blocks size high cells
spread RoundRobin high cells = with_rounds high high (hosts_in cells) cells

-- what an instance was given
abbrev pub grant_of : Cell → Option Grant
grant_of cell = if cell.slots == 0 then None else Some (record { at = cell.at; slots = cell.slots })

-- the grants, where at least so many slots were given, and one
abbrev pub granted : ℕ → List Cell → Option (List Grant)
granted low cells = if nat_le (max low 1) (slots_given cells) then Some (filter_map grant_of cells) else None

-- the grants by the rule of a PE, where that is there
abbrev pub placed_with : List Cell → PeRequest → Option PeRow → Option (List Grant)
placed_with cells request None = None
placed_with cells request (Some pe) = granted request.low (spread pe.rule request.high cells)

-- a job without a PE asks for one slot anywhere, one with a PE for the slots of a range: qsub, -pe
abbrev pub placed_by : Cluster → List Cell → Option PeRequest → Option (List Grant)
placed_by c cells None = granted 1 (spread FillUp 1 cells)
placed_by c cells (Some request) = placed_with cells request (at_text c.pes request.name)

-- the grants of a task of a job from a moment on, over what is booked; the job may be one that isn't in the table
unfoldable pub placement_of : Cluster → Groups → List InstanceId → List Booking → Job → ℕ → Option (List Grant)
placement_of c groups order bookings job from = placed_by c (map (cell_of c groups job bookings from) order) job.request.pe

abbrev pub job_placement : Cluster → Groups → List InstanceId → List Booking → ℕ → Option Job → Option (List Grant)
job_placement c groups order bookings from None = None
job_placement c groups order bookings from (Some job) = placement_of c groups order bookings job from

-- the grants of a task of the table's jobs from a moment on, over what is booked
unfoldable pub placement : Cluster → Groups → List InstanceId → List Booking → TaskId → ℕ → Option (List Grant)
unfolding placement_of
placement c groups order bookings task from = job_placement c groups order bookings from (at_number c.jobs task.job)
