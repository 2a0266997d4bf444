-- What reading a line by its number answers.
use Rattle.std.specs.Prelude.{◌≡◌, ℕ, ◌<◌, ◌≤◌, List, slice_get, Option, Some, None, Result, Ok, Err}
use Rattle.ge_model_rows.specs.AccountRows.{Line}
use Rattle.ge_acctlog.specs.declared.faults.LogFault.{LogFault}
use Rattle.ge_acctlog.specs.declared.faults.LogFault.TheVariants.{Disk, Frame, Bad, Memory}

-- the line of this number of a log at rest; nothing but the disk and memory may be wanting
abbrev pub ReadsLine : Result (Option Line) LogFault → ℕ → List Line → Type 0
ReadsLine (Ok line) k lines = line ≡ slice_get lines k
ReadsLine (Err Disk) k lines = Unit {0}
ReadsLine (Err (Frame place)) k lines = ⊥
ReadsLine (Err (Bad place)) k lines = ⊥
ReadsLine (Err Memory) k lines = Unit {0}

-- there is no line exactly where the number isn't below the count
abbrev pub IsCounted : Result (Option Line) LogFault → ℕ → ℕ → Type 0
IsCounted (Ok None) k count = count ≤ k
IsCounted (Ok (Some line)) k count = k < count
IsCounted (Err fault) k count = k < count

-- a fact where a line is answered
abbrev pub OnSome : Result (Option Line) LogFault → Type 0 → Type 0
OnSome (Ok None) P = Unit {0}
OnSome (Ok (Some line)) P = P
OnSome (Err fault) P = Unit {0}
