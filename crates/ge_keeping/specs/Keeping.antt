-- How what changed is kept: as a record of it, or as a snapshot of the whole value.
use Rattle.std.specs.Prelude.{◌≡◌, ℕ, ◌+◌, ◌-◌, ◌^◌, ◌<◌, ◌≤◌, min, Bool, true, false, not, ◌&&◌, ◌||◌, ◌==◌, nat_le, nat_lt, if◌then◌else◌, List, Result, Ok, Err}
use Rattle.ge_limits.specs.Limits as limit
use Rattle.ge_model_journal.specs.Area.{written_format}
use Rattle.ge_model_journal.specs.Journal.{State, with_record, compacted}
use Rattle.ge_spool.specs.Settled.{IsAppended, IsCompacted, generation_of, format_of, record_count, end_of}
use Rattle.ge_spool.specs.declared.spool.Spool.{Spool}
use Rattle.ge_spool.specs.declared.faults.AppendFault.{AppendFault}
use Rattle.ge_spool.specs.declared.faults.AppendFault.TheVariants as journal
use Rattle.ge_keeping.specs.declared.faults.KeepFault.{KeepFault}
use Rattle.ge_keeping.specs.declared.faults.KeepFault.TheVariants.{Disk, Full, Memory, Dead}

-- how many records stand behind a snapshot at most
abbrev pub record_limit : ℕ
record_limit = 4095

-- the greatest generation, behind which no other can come
abbrev pub last_generation : ℕ
last_generation = 2 ^ 64 - 1

-- where an area ends behind one more record of so many bytes
abbrev pub record_end : Spool → ℕ → ℕ
record_end s size = end_of s + 6 + size

-- Whether a snapshot is kept in place of a record of so many bytes: where the area is of the earlier format, as many records stand
-- as may, or the record doesn't fit. The last generation has no next one, so it takes records alone.
abbrev pub compacts : Spool → ℕ → Bool
compacts s size =
    not (format_of s == written_format)
    || (not (generation_of s == last_generation) && (nat_le record_limit (record_count s) || nat_lt limit.area_bytes (record_end s size)))

-- where the area ends that is written, for a record and a snapshot of so many bytes; a record's as far as a number of 64 bits tells
abbrev pub kept_end : Spool → ℕ → ℕ → ℕ
kept_end s size snapshot_size = if compacts s size then 19 + snapshot_size else min (record_end s size) (2 ^ 64 - 1)

-- the state that is written
abbrev pub stored : Bool → State → List ℕ → List ℕ → State
stored true state body snapshot = compacted state snapshot
stored false state body snapshot = with_record state body

-- what the journal keeps of its areas after that
abbrev pub IsStored : Bool → Spool → Spool → ℕ → ℕ → Type 0
IsStored true old new size snapshot_size = IsCompacted old new snapshot_size
IsStored false old new size snapshot_size = IsAppended old new size

-- how many syncs that takes
abbrev pub stored_syncs : Bool → ℕ
stored_syncs compacting = if compacting then 3 else 2

-- when keeping is answered how: after it the area would end there, and a disk fails only for a reason
abbrev pub Keeps : Result (Unit {0}) KeepFault → ℕ → Type 0 → Type 0
Keeps (Ok done) end reason = end ≤ limit.area_bytes
Keeps (Err Disk) end reason = (end ≤ limit.area_bytes) × reason
Keeps (Err (Full place)) end reason = (limit.area_bytes < end) × (place ≡ end)
Keeps (Err Memory) end reason = Unit {0}
Keeps (Err Dead) end reason = ⊥

-- the fault of keeping that a fault of the journal makes
abbrev pub KeepsAs : AppendFault → KeepFault → Type 0
KeepsAs journal.Disk fault = fault ≡ Disk
KeepsAs (journal.Full place) fault = fault ≡ Full place
KeepsAs journal.Dead fault = fault ≡ Dead

-- a fact where nothing was written
abbrev pub OnUnwritten : {T : Type 0} → Result T KeepFault → Type 0 → Type 0
OnUnwritten (Ok done) P = Unit {0}
OnUnwritten (Err Disk) P = Unit {0}
OnUnwritten (Err (Full place)) P = P
OnUnwritten (Err Memory) P = P
OnUnwritten (Err Dead) P = P

-- a fact where something may have been written
abbrev pub OnWritten : {T : Type 0} → Result T KeepFault → Type 0 → Type 0
OnWritten (Ok done) P = P
OnWritten (Err Disk) P = P
OnWritten (Err (Full place)) P = Unit {0}
OnWritten (Err Memory) P = Unit {0}
OnWritten (Err Dead) P = Unit {0}
