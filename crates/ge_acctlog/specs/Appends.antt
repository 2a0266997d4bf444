-- When an append is answered how.
use Rattle.std.specs.Prelude.{◌≡◌, ℕ, ◌<◌, ◌≤◌, Bool, true, false, Result, Ok, Err}
use Rattle.ge_limits.specs.Limits as limit
use Rattle.ge_acctlog.specs.declared.faults.LogStop.{LogStop}
use Rattle.ge_acctlog.specs.declared.faults.LogStop.TheVariants.{Disk, Full, Dead, Memory}

-- Why a log, dead or not, refuses an append after which it would end at a place; a disk fails only for a reason, and want of memory is free.
abbrev pub Refuses : LogStop → Bool → ℕ → Type 0 → Type 0
Refuses Disk dead end reason = (dead ≡ false) × (end ≤ limit.area_bytes) × reason
Refuses (Full place) dead end reason = (dead ≡ false) × (limit.area_bytes < end) × (place ≡ end)
Refuses Dead dead end reason = dead ≡ true
Refuses Memory dead end reason = dead ≡ false

-- the answer of a log to an append after which it would end at a place
abbrev pub Answers : Result (Unit {0}) LogStop → Bool → ℕ → Type 0 → Type 0
Answers (Ok done) dead end reason = (dead ≡ false) × (end ≤ limit.area_bytes)
Answers (Err stop) dead end reason = Refuses stop dead end reason

-- whether a log is dead after a refusal
abbrev pub is_dead_by : LogStop → Bool → Bool
is_dead_by Disk dead = true
is_dead_by (Full place) dead = dead
is_dead_by Dead dead = dead
is_dead_by Memory dead = dead

-- and after an answer
abbrev pub is_dead_after : {T : Type 0} → Result T LogStop → Bool → Bool
is_dead_after (Ok x) dead = dead
is_dead_after (Err stop) dead = is_dead_by stop dead

-- a fact where a refusal wrote nothing
abbrev pub UnlessDisk : LogStop → Type 0 → Type 0
UnlessDisk Disk P = Unit {0}
UnlessDisk (Full place) P = P
UnlessDisk Dead P = P
UnlessDisk Memory P = P

-- a fact where nothing was written
abbrev pub OnUnwritten : {T : Type 0} → Result T LogStop → Type 0 → Type 0
OnUnwritten (Ok x) P = Unit {0}
OnUnwritten (Err stop) P = UnlessDisk stop P
