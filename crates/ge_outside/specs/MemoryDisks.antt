-- What a disk in memory holds, and which of its calls fail.
use Rattle.std.specs.Prelude.{ℕ, List}
use Rattle.ge_model_journal.specs.Disk.{Content}
use Rattle.ge_outside.specs.Histories.{history_told}
use Rattle.ge_outside.specs.declared.schedules.Schedule.{Schedule}
use Rattle.ge_outside.specs.declared.memory_disks.MemDisk.{MemDisk}

abbrev pub disk_told : MemDisk → List Content
disk_told d = history_told d.history

abbrev pub disk_schedule : MemDisk → Schedule
disk_schedule d = d.schedule

abbrev pub disk_fault_count : MemDisk → ℕ
disk_fault_count d = d.faults

abbrev pub disk_sync_count : MemDisk → ℕ
disk_sync_count d = d.syncs
