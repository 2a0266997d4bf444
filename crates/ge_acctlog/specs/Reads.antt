-- What reading the disk of a log answers.
use Rattle.std.specs.Prelude.{◌≡◌, ℕ, not, ◌==◌, ◌||◌, nat_lt, if◌then◌else◌, List, [], ◌∷◌, length, take, drop, slice_index, Result, Ok, Err}
use Rattle.ge_model_journal.specs.Area.{number4}
use Rattle.ge_model_journal.specs.Disk.{Content}
use Rattle.ge_acctlog.specs.declared.faults.LogFault.{LogFault}
use Rattle.ge_acctlog.specs.declared.faults.LogFault.TheVariants.{Disk, Frame, Bad, Memory}

-- all bytes of a disk, where it tells
abbrev pub ReadsAll : List Content → List ℕ → Type 0
ReadsAll [] bytes = Unit {0}
ReadsAll (now ∷ earlier) bytes = bytes ≡ now.bytes

-- the size of the record that bytes begin with; 0 where they begin with none
abbrev pub first_size : List ℕ → ℕ
first_size bytes = if nat_lt (length bytes) 5 || not (slice_index bytes 0 == 1) then 0 else number4 bytes 1

abbrev pub ReadsSize : List Content → ℕ → ℕ → Type 0
ReadsSize [] at size = Unit {0}
ReadsSize (now ∷ earlier) at size = size ≡ first_size (drop at now.bytes)

-- so many bytes from a place on
abbrev pub ReadsBody : List Content → ℕ → ℕ → List ℕ → Type 0
ReadsBody [] at size body = Unit {0}
ReadsBody (now ∷ earlier) at size body = body ≡ take size (drop at now.bytes)

-- an answer that blames the disk has a reason
abbrev pub Blames : {T : Type 0} → Result T LogFault → Type 0 → Type 0
Blames (Ok x) reason = Unit {0}
Blames (Err Disk) reason = reason
Blames (Err (Frame place)) reason = Unit {0}
Blames (Err (Bad place)) reason = Unit {0}
Blames (Err Memory) reason = Unit {0}

-- an answer that finds nothing wrong in the log
abbrev pub IsDiskOrMemory : {T : Type 0} → Result T LogFault → Type 0
IsDiskOrMemory (Ok x) = Unit {0}
IsDiskOrMemory (Err Disk) = Unit {0}
IsDiskOrMemory (Err (Frame place)) = ⊥
IsDiskOrMemory (Err (Bad place)) = ⊥
IsDiskOrMemory (Err Memory) = Unit {0}
