-- The output and the log at one moment, and what both tell.
use Rattle.std.specs.Prelude.{◌≡◌, ℕ, List, [], ◌∷◌, Option, Result}
use Rattle.ge_model_rows.specs.AccountRows.{Line}
use Rattle.ge_model_journal.specs.Disk.{Content, read_bytes}
use Rattle.ge_model_program.specs.Statuses.{IsOneStatusOf}
use Rattle.ge_model_log.specs.Lines.{logged}
use Rattle.ge_model_log.specs.declared.Wrong.{Wrong}
use Rattle.ge_spool.specs.Opening.{Tells}

pub record Sight : Type 0 where
  -- what the output holds, where it tells it, and its count of faults
  pub output : Option (List ℕ)
  pub writes : ℕ
  -- the moments of the log's disk, newest first, and its count of faults
  pub told : List Content
  pub faults : ℕ

-- this moment, from what an output tells and its count of faults, and what a disk tells and its count of faults
abbrev pub sight_of : {K E : Type 0} → (K → Option (List ℕ)) → (K → ℕ) → (E → List Content) → (E → ℕ) → K → E → Sight
sight_of written writes told faults output log = record { output = written output; writes = writes output; told = told log; faults = faults log }

-- a log that tells holds these lines, in records that end at a place, or this is wrong in it
abbrev pub LogSays : List Content → Result (List Line × ℕ) Wrong → Type 0
LogSays told found = Tells told × (logged (read_bytes told) ≡ found)

-- a device failed or memory ran out
abbrev pub IsFailure : ℕ → Type 0
IsFailure status = IsOneStatusOf (7 ∷ 8 ∷ 10 ∷ []) status
