-- What a replay says of its end, and the statuses of faults.
use Rattle.std.specs.Prelude.{◌≡◌, ℕ, Result, Ok, Err}
use Rattle.ge_spool.specs.declared.faults.OpenFault.{OpenFault}
use Rattle.ge_spool.specs.declared.faults.OpenFault.TheVariants as fault
use Rattle.ge_serve.specs.Stop.{Stop}
use Rattle.ge_serve.specs.Stop.TheVariants as stop
use Rattle.ge_top.specs.declared.replaying.ReplayFault.{ReplayFault}
use Rattle.ge_top.specs.declared.replaying.ReplayFault.TheVariants.{Stopped, Read, Long, Write, Memory}

-- the status where the master stopped
abbrev pub StopsAs : Stop → ℕ → Type 0
StopsAs stop.Disk status = status ≡ 8
StopsAs (stop.Full place) status = status ≡ 5
StopsAs stop.Spent status = status ≡ 10
StopsAs stop.Dead status = status ≡ 10

-- the status where the areas could not be opened
abbrev pub OpensNoneAs : OpenFault → ℕ → Type 0
OpensNoneAs fault.Disk status = status ≡ 8
OpensNoneAs (fault.Frame area place) status = status ≡ 4
OpensNoneAs (fault.Bad area place) status = status ≡ 4
OpensNoneAs fault.Memory status = status ≡ 10

-- a fact where what was written ends at the end of a reply
abbrev pub OnWritten : Result (Unit {0}) ReplayFault → Type 0 → Type 0
OnWritten (Ok done) P = Unit {0}
OnWritten (Err (Stopped s)) P = P
OnWritten (Err Read) P = P
OnWritten (Err Long) P = P
OnWritten (Err Write) P = Unit {0}
OnWritten (Err Memory) P = P

-- a fact where a write failed
abbrev pub OnCut : Result (Unit {0}) ReplayFault → Type 0 → Type 0
OnCut (Ok done) P = Unit {0}
OnCut (Err (Stopped s)) P = Unit {0}
OnCut (Err Read) P = Unit {0}
OnCut (Err Long) P = Unit {0}
OnCut (Err Write) P = P
OnCut (Err Memory) P = Unit {0}

-- an answer that blames an area, the input or the output has a reason
abbrev pub Blames : Result (Unit {0}) ReplayFault → Type 0 → Type 0 → Type 0 → Type 0
Blames (Ok done) disks reads writes = Unit {0}
Blames (Err (Stopped stop.Disk)) disks reads writes = disks
Blames (Err (Stopped (stop.Full place))) disks reads writes = Unit {0}
Blames (Err (Stopped stop.Spent)) disks reads writes = Unit {0}
Blames (Err (Stopped stop.Dead)) disks reads writes = ⊥
Blames (Err Read) disks reads writes = reads
Blames (Err Long) disks reads writes = Unit {0}
Blames (Err Write) disks reads writes = writes
Blames (Err Memory) disks reads writes = Unit {0}

-- a fact where the master stopped since its cluster is too long
abbrev pub OnFull : Result (Unit {0}) ReplayFault → Type 0 → Type 0
OnFull (Ok done) P = Unit {0}
OnFull (Err (Stopped stop.Disk)) P = Unit {0}
OnFull (Err (Stopped (stop.Full place))) P = P
OnFull (Err (Stopped stop.Spent)) P = Unit {0}
OnFull (Err (Stopped stop.Dead)) P = Unit {0}
OnFull (Err Read) P = Unit {0}
OnFull (Err Long) P = Unit {0}
OnFull (Err Write) P = Unit {0}
OnFull (Err Memory) P = Unit {0}

-- A fact of how many bytes of the script were read: where it is too long, and where all that was read of it could be answered.
abbrev pub OnLong : Result (Unit {0}) ReplayFault → Type 0 → Type 0
OnLong (Ok done) P = Unit {0}
OnLong (Err (Stopped s)) P = Unit {0}
OnLong (Err Read) P = Unit {0}
OnLong (Err Long) P = P
OnLong (Err Write) P = Unit {0}
OnLong (Err Memory) P = Unit {0}

abbrev pub OnBelow : Result (Unit {0}) ReplayFault → Type 0 → Type 0
OnBelow (Ok done) P = P
OnBelow (Err (Stopped s)) P = P
OnBelow (Err Read) P = Unit {0}
OnBelow (Err Long) P = Unit {0}
OnBelow (Err Write) P = P
OnBelow (Err Memory) P = Unit {0}
