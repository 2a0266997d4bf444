-- The bytes that a disk in memory began with.
use Rattle.std.specs.Prelude.{ℕ, List, Option, None, Some, Vec}
use Rattle.std.specs.declared.alloc.Global.{Global}

-- a copy of them is kept from the first write on; until then they are what a read gives
abbrev pub start_of : Option (Vec ℕ Global) → List ℕ → List ℕ
start_of None bytes = bytes
start_of (Some first) bytes = first.items
