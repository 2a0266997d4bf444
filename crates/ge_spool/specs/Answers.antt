-- When a write to the journal is answered how.
use Rattle.std.specs.Prelude.{◌≡◌, ℕ, ◌^◌, ◌<◌, ◌≤◌, Bool, true, false, Result, Ok, Err}
use Rattle.ge_limits.specs.Limits as limit
use Rattle.ge_spool.specs.declared.faults.AppendFault.{AppendFault}
use Rattle.ge_spool.specs.declared.faults.AppendFault.TheVariants.{Disk, Full, Dead}

-- The answer of a journal, dead or not, to a write after which the area would end at a place; a disk fails only for a reason.
abbrev pub Answers : Result (Unit {0}) AppendFault → Bool → ℕ → Type 0 → Type 0
Answers (Ok done) dead end reason = (dead ≡ false) × (end ≤ limit.area_bytes)
Answers (Err Disk) dead end reason = (dead ≡ false) × (end ≤ limit.area_bytes) × reason
Answers (Err (Full place)) dead end reason = (dead ≡ false) × (limit.area_bytes < end) × (place ≡ end)
Answers (Err Dead) dead end reason = dead ≡ true

-- whether a journal is dead after an answer
abbrev pub is_dead_after : Result (Unit {0}) AppendFault → Bool
is_dead_after (Ok done) = false
is_dead_after (Err Disk) = true
is_dead_after (Err (Full place)) = false
is_dead_after (Err Dead) = true

-- a fact where a write was refused before any disk was touched
abbrev pub OnRefusal : Result (Unit {0}) AppendFault → Type 0 → Type 0
OnRefusal (Ok done) P = Unit {0}
OnRefusal (Err Disk) P = Unit {0}
OnRefusal (Err (Full place)) P = P
OnRefusal (Err Dead) P = P
