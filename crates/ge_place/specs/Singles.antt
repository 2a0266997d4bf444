-- One slot where none is given yet.
use Rattle.std.specs.Prelude.{◌+◌, Bool, ◌&&◌, min, nat_le}
use Rattle.std.specs.List.{list_all}
use Rattle.ge_model_rows.specs.HostRows.{InstanceId}
use Rattle.ge_model_place.specs.Limits.{greatest_demand}
use Rattle.ge_model_place.specs.Placement.{Room}
use Rattle.ge_place.specs.declared.searching.Search.{Search}
use Rattle.ge_place.specs.Spots.{is_free_at, rooms_at}

-- whether a limit has room for one slot
abbrev pub has_room_alone : Room → Bool
has_room_alone room = nat_le (room.booked + min room.counted.amount greatest_demand) room.counted.capacity

-- whether an instance takes the first slot
abbrev pub takes_first : Search → InstanceId → Bool
takes_first search at = is_free_at search at && list_all has_room_alone (rooms_at search at)
