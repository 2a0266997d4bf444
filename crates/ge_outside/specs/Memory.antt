-- What the streams in memory hold, and which of their calls fail.
use Rattle.std.specs.Prelude.{ℕ, ◌==◌, Bool, List, drop}
use Rattle.ge_outside.specs.declared.schedules.Schedule.{Schedule}
use Rattle.ge_outside.specs.declared.memory_streams.MemSource.{MemSource}
use Rattle.ge_outside.specs.declared.memory_streams.MemSink.{MemSink}
use Rattle.ge_outside.specs.declared.memory_streams.PlainSource.{PlainSource}
use Rattle.ge_outside.specs.declared.memory_links.MemLink.{MemLink}

abbrev pub source_rest : MemSource → List ℕ
source_rest s = drop s.at s.bytes.items

abbrev pub source_schedule : MemSource → Schedule
source_schedule s = s.schedule

abbrev pub source_faults : MemSource → ℕ
source_faults s = s.faults

abbrev pub plain_rest : PlainSource → List ℕ
plain_rest s = drop s.at s.bytes.items

abbrev pub sink_bytes : MemSink → List ℕ
sink_bytes s = s.bytes.items

abbrev pub sink_schedule : MemSink → Schedule
sink_schedule s = s.schedule

abbrev pub sink_faults : MemSink → ℕ
sink_faults s = s.faults

abbrev pub link_rest : MemLink → List ℕ
link_rest l = drop l.at l.bytes.items

abbrev pub link_written : MemLink → List ℕ
link_written l = l.written.items

abbrev pub link_schedule : MemLink → Schedule
link_schedule l = l.schedule

abbrev pub link_read_faults : MemLink → ℕ
link_read_faults l = l.read_faults

abbrev pub link_write_faults : MemLink → ℕ
link_write_faults l = l.write_faults

-- no call was made yet on a link
abbrev pub is_unused : MemLink → Bool
is_unused l = l.schedule.calls == 0
