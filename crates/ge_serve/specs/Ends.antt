-- What serving one connection answers.
use Rattle.std.specs.Prelude.{ℕ, List, Option, Result, Ok, Err}
use Rattle.ge_outside.specs.Clocks.{Answers}
use Rattle.ge_model_rows.specs.ClusterRows.{Cluster}
use Rattle.ge_model_rows.specs.EventRows.{Event, Planned}
use Rattle.ge_model_program.specs.Links.{LeftInHand, EndsAs}
use Rattle.ge_model_program.specs.declared.LinkEnd.{LinkEnd}
use Rattle.ge_model_program.specs.declared.LinkEnd.TheVariants as end
use Rattle.ge_wire.specs.declared.faults.WireFault.{WireFault}
use Rattle.ge_wire.specs.declared.faults.WireFault.TheVariants as fault
use Rattle.ge_master.specs.Areas.{Areas}
use Rattle.ge_master.specs.Homes.{Parts}
use Rattle.ge_master.specs.declared.faults.Stop.{Stop}
use Rattle.ge_master.specs.declared.faults.Stop.TheVariants as stop
use Rattle.ge_serve.specs.Leaving.{KeepsAt, LeavesAt}

-- the end that a fault of reading makes
abbrev pub end_of_fault : WireFault → LinkEnd
end_of_fault fault.Read = end.Read
end_of_fault fault.Write = end.Write
end_of_fault (fault.Frame place) = end.Frame place
end_of_fault fault.Long = end.Long
end_of_fault fault.NoMemory = end.Memory

-- What is left at each answer. A master that stopped is given up: what counts are the areas.
abbrev pub LinkEndsAs : (plan : Cluster → Event → Planned) (old new : Parts) (before after : Areas) (bytes : List ℕ) (clock : Answers) (written now : Option (List ℕ)) (later : Option Answers)
    → Result LinkEnd Stop → Type 0
LinkEndsAs plan old new before after bytes clock written now later (Ok end) =
    EndsAs plan old.cluster clock bytes (KeepsAt plan old before after bytes clock end new) written now later end new.cluster new.stopping
LinkEndsAs plan old new before after bytes clock written now later (Err stop) =
    LeftInHand plan old.cluster clock bytes (LeavesAt plan old before after bytes clock stop) written now later

-- an answer that blames a device has a reason, and a master is dead that was so before
abbrev pub LinkBlames : Result LinkEnd Stop → (reads writes disks gone : Type 0) → Type 0
LinkBlames (Ok end.Done) reads writes disks gone = Unit {0}
LinkBlames (Ok end.Stopped) reads writes disks gone = Unit {0}
LinkBlames (Ok end.Read) reads writes disks gone = reads
LinkBlames (Ok end.Write) reads writes disks gone = writes
LinkBlames (Ok (end.Frame place)) reads writes disks gone = Unit {0}
LinkBlames (Ok end.Long) reads writes disks gone = Unit {0}
LinkBlames (Ok end.Memory) reads writes disks gone = Unit {0}
LinkBlames (Err stop.Disk) reads writes disks gone = disks
LinkBlames (Err (stop.Full place)) reads writes disks gone = Unit {0}
LinkBlames (Err stop.Spent) reads writes disks gone = Unit {0}
LinkBlames (Err stop.Dead) reads writes disks gone = gone
