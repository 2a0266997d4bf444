-- What a door in memory holds, and which of its calls fail.
use Rattle.std.specs.Prelude.{ℕ, ◌+◌, List, map, reverse}
use Rattle.ge_outside.specs.Doors.{ClosedLink}
use Rattle.ge_outside.specs.Memory.{link_rest, link_written, link_read_faults, link_write_faults}
use Rattle.ge_outside.specs.declared.schedules.Schedule.{Schedule}
use Rattle.ge_outside.specs.declared.memory_links.MemLink.{MemLink}
use Rattle.ge_outside.specs.declared.memory_doors.MemDoor.{MemDoor}

-- what a link that was given back leaves
abbrev pub closed_link : MemLink → ClosedLink
closed_link l = record { unread = link_rest l; written = link_written l; faults = link_read_faults l + link_write_faults l }

abbrev pub door_coming : MemDoor → List (List ℕ)
door_coming d = map link_rest (reverse d.links.items)

abbrev pub door_closed : MemDoor → List ClosedLink
door_closed d = map closed_link d.closed.items

abbrev pub door_schedule : MemDoor → Schedule
door_schedule d = d.schedule

abbrev pub door_faults : MemDoor → ℕ
door_faults d = d.door_faults

abbrev pub door_link_faults : MemDoor → ℕ
door_link_faults d = d.link_faults
