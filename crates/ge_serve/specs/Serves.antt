-- What serving connections of a door answers.
use Rattle.std.specs.Prelude.{◌≡◌, ℕ, ◌+◌, ◌==◌, Bool, true, false, List, [], ◌∷◌, ◌++◌, length, Option, Some, IsTrue}
use Rattle.std.specs.List.{list_any}
use Rattle.ge_outside.specs.Clocks.{Answers}
use Rattle.ge_outside.specs.Doors.{ClosedLink}
use Rattle.ge_outside.specs.Faults.{Rose}
use Rattle.ge_model_rows.specs.ClusterRows.{Cluster}
use Rattle.ge_model_rows.specs.EventRows.{Event, Planned}
use Rattle.ge_model_core.specs.Plan.{plan_of}
use Rattle.ge_model_wire.specs.Frames.{frames_of}
use Rattle.ge_model_program.specs.FramesKept.{IsFull}
use Rattle.ge_model_program.specs.Links.{InHand}
use Rattle.ge_model_program.specs.Served.{LinkLeaves}
use Rattle.ge_model_program.specs.Doors.{OnDoor, ServedTo}
use Rattle.ge_model_program.specs.declared.LinkEnd.{LinkEnd}
use Rattle.ge_model_program.specs.declared.LinkEnd.TheVariants as end
use Rattle.ge_master.specs.Areas.{Areas, HasFailed}
use Rattle.ge_master.specs.Homes.{Parts, IsHome}
use Rattle.ge_master.specs.Ledgers.{ledger_of}
use Rattle.ge_master.specs.declared.faults.Stop.{Stop}
use Rattle.ge_master.specs.declared.faults.Stop.TheVariants as stop
use Rattle.ge_serve.specs.Leaving.{Leaves, LeavesHand}
use Rattle.ge_serve.specs.declared.statuses.ServeFault.{ServeFault}
use Rattle.ge_serve.specs.declared.statuses.ServeFault.TheVariants as fault

-- whether a connection ended for want of memory
abbrev pub is_memory : LinkEnd → Bool
is_memory end.Done = false
is_memory end.Stopped = false
is_memory end.Read = false
is_memory end.Write = false
is_memory (end.Frame place) = false
is_memory end.Long = false
is_memory end.Memory = true

-- the status that a fault makes; a dead master has no other
abbrev pub status_of_stop : Stop → ℕ
status_of_stop stop.Disk = 8
status_of_stop (stop.Full place) = 5
status_of_stop stop.Spent = 10
status_of_stop stop.Dead = 10

abbrev pub status_of_fault : ServeFault → ℕ
status_of_fault (fault.Stopped s) = status_of_stop s
status_of_fault fault.Door = 9
status_of_fault fault.Memory = 10

-- a fault of a device has its reason
abbrev pub FaultBlames : ServeFault → (disks doors : Type 0) → Type 0
FaultBlames (fault.Stopped stop.Disk) disks doors = disks
FaultBlames (fault.Stopped (stop.Full place)) disks doors = Unit {0}
FaultBlames (fault.Stopped stop.Spent) disks doors = Unit {0}
FaultBlames (fault.Stopped stop.Dead) disks doors = ⊥
FaultBlames fault.Door disks doors = doors
FaultBlames fault.Memory disks doors = Unit {0}

-- old and new: the master before and after a turn; coming, closed and clock: what the door and the clock told before it

-- the first connection to come was served and given back
pub record OneServed (plan : Cluster → Event → Planned) (old new : Parts) (before after : Areas) (coming : List (List ℕ)) (closed : List ClosedLink) (clock : Answers) (coming_now : Option (List (List ℕ)))
    (closed_now : Option (List ClosedLink)) (later : Option Answers) : Type 0 where
  pub bytes : List ℕ
  pub others : List (List ℕ)
  pub link : ClosedLink
  pub answers : Answers
  pub coming_is : coming ≡ bytes ∷ others
  pub still_coming : coming_now ≡ Some others
  pub closed_is : closed_now ≡ Some (closed ++ link ∷ [])
  pub ticks : later ≡ Some answers
  pub leaves : LinkLeaves plan (ledger_of old.spool) old.cluster clock bytes link (ledger_of new.spool) new.cluster answers new.stopping
  pub areas : Leaves before after (IsHome old before) (length (frames_of bytes)) new.cluster new.cluster

-- none was accepted, since the door failed
pub record NoneAccepted (old new : Parts) (before after : Areas) (coming : List (List ℕ)) (closed : List ClosedLink) (clock : Answers) (coming_now : Option (List (List ℕ)))
    (closed_now : Option (List ClosedLink)) (later : Option Answers) (f : ServeFault) : Type 0 where
  pub door : f ≡ fault.Door
  pub still_coming : coming_now ≡ Some coming
  pub closed_is : closed_now ≡ Some closed
  pub ticks : later ≡ Some clock
  pub same : new ≡ old
  pub untouched : after ≡ before

-- one was accepted and not given back; at 5 there is no room for its frame in hand
pub record OneKept (plan : Cluster → Event → Planned) (old : Parts) (before after : Areas) (coming : List (List ℕ)) (closed : List ClosedLink) (clock : Answers) (coming_now : Option (List (List ℕ)))
    (closed_now : Option (List ClosedLink)) (f : ServeFault) : Type 0 where
  pub bytes : List ℕ
  pub others : List (List ℕ)
  pub coming_is : coming ≡ bytes ∷ others
  pub still_coming : coming_now ≡ Some others
  pub closed_is : closed_now ≡ Some closed
  pub hand : InHand plan old.cluster clock bytes (LeavesHand plan old before after bytes clock)
  pub full : status_of_fault f ≡ 5 → (place : ℕ) × IsFull plan (ledger_of old.spool) old.cluster clock bytes hand.marks hand.hand place

-- Exit statuses: 0 done, 5 an area has no room for a frame, 8 an area failed, 9 the door failed, 10 want of memory.
abbrev pub IsServeStatus : ℕ → Type 0
IsServeStatus status = IsTrue (list_any (λ s. s == status) (0 ∷ 5 ∷ 8 ∷ 9 ∷ 10 ∷ []))

-- What serving so many connections comes to. Each exit leaves the cluster after those that were given back, or what one that isn't may leave of it;
-- every pair of what a stop may leave of the areas stands for it, where the master was at home.
pub record Serves (status count : ℕ) (old new : Parts) (before after : Areas) (coming coming_now : Option (List (List ℕ))) (closed closed_now : Option (List ClosedLink)) (clock later : Option Answers)
    (doors doors_now : ℕ) : Type 0 where
  pub statuses : IsServeStatus status
  pub served : OnDoor coming closed clock (λ coming closed clock. ServedTo plan_of (ledger_of old.spool) old.cluster coming closed clock coming_now closed_now
      (Leaves before after (IsHome old before)) status count later new.cluster)
  pub disk : status ≡ 8 → HasFailed before after
  pub door : status ≡ 9 → Rose doors doors_now
