-- The failing calls of the forms in memory.
use Rattle.std.specs.Prelude.{◌+◌, ◌-◌, ◌^◌, min, Contains}
use Rattle.ge_outside.specs.declared.schedules.Schedule.{Schedule}

-- after one call more
abbrev pub next_call : Schedule → Schedule
next_call s = record { fails = s.fails; calls = min (s.calls + 1) (2 ^ 64 - 1) }

-- the next call is one of those that fail
abbrev pub IsDue : Schedule → Type 0
IsDue s = Contains s.fails.items (min (s.calls + 1) (2 ^ 64 - 1))
