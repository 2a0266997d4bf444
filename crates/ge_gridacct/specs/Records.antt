-- What appending lines record by record answers.
use Rattle.std.specs.Prelude.{ℕ, List, Result, Ok, Err}
use Rattle.ge_model_rows.specs.AccountRows.{Line}
use Rattle.ge_acctlog.specs.declared.faults.LogStop.{LogStop}
use Rattle.ge_acctlog.specs.declared.faults.LogStop.TheVariants.{Disk, Full, Dead, Memory}
use Rattle.ge_gridacct.specs.Fronts.{Fits, IsFull}

-- a log that lives, whose list of records ends at a place: full exactly where some record doesn't fit, failures and want of memory aside
abbrev pub AppendsAll : Result (Unit {0}) LogStop → ℕ → List Line → Type 0 → Type 0
AppendsAll (Ok done) end lines reason = Fits end lines
AppendsAll (Err Disk) end lines reason = reason
AppendsAll (Err (Full place)) end lines reason = IsFull end lines
AppendsAll (Err Dead) end lines reason = ⊥
AppendsAll (Err Memory) end lines reason = Unit {0}
