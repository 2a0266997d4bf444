-- Why a run ends early, and the statuses of that.
use Rattle.std.specs.Prelude.{ℕ, Result, Ok, Err}
use Rattle.ge_acctlog.specs.declared.faults.LogFault.{LogFault}
use Rattle.ge_acctlog.specs.declared.faults.LogFault.TheVariants as fault
use Rattle.ge_acctlog.specs.declared.faults.LogStop.{LogStop}
use Rattle.ge_acctlog.specs.declared.faults.LogStop.TheVariants as stop
use Rattle.ge_spool.specs.declared.faults.OpenFault.{OpenFault}
use Rattle.ge_spool.specs.declared.faults.OpenFault.TheVariants as spool
use Rattle.ge_gridacct.specs.declared.faults.Fault.{Fault}
use Rattle.ge_gridacct.specs.declared.faults.Fault.TheVariants.{Disk, Full, Wrong, Other, Write, Memory}

-- the fault that one of the log makes
abbrev pub fault_of : LogFault → Fault
fault_of fault.Disk = Disk
fault_of (fault.Frame place) = Wrong
fault_of (fault.Bad place) = Wrong
fault_of fault.Memory = Memory

abbrev pub fault_of_stop : LogStop → Fault
fault_of_stop stop.Disk = Disk
fault_of_stop (stop.Full place) = Full
fault_of_stop stop.Dead = Disk
fault_of_stop stop.Memory = Memory

abbrev pub status_of : Fault → ℕ
status_of Disk = 8
status_of Full = 5
status_of Wrong = 11
status_of Other = 12
status_of Write = 7
status_of Memory = 10

-- the status where the areas could not be opened
abbrev pub status_of_open : OpenFault → ℕ
status_of_open spool.Disk = 8
status_of_open (spool.Frame area place) = 4
status_of_open (spool.Bad area place) = 4
status_of_open spool.Memory = 10

-- an answer that blames the log's disk or the output has a reason
abbrev pub Blames : {T : Type 0} → Result T Fault → Type 0 → Type 0 → Type 0
Blames (Ok x) disk writes = Unit {0}
Blames (Err Disk) disk writes = disk
Blames (Err Full) disk writes = Unit {0}
Blames (Err Wrong) disk writes = Unit {0}
Blames (Err Other) disk writes = Unit {0}
Blames (Err Write) disk writes = writes
Blames (Err Memory) disk writes = Unit {0}
