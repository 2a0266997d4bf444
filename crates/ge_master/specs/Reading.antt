-- What reading a journal's snapshot and records answers.
use Rattle.std.specs.Prelude.{◌≡◌, ℕ, ◌+◌, ◌≤◌, Bool, true, false, Option, Some, None, Result, Ok, Err}
use Rattle.ge_model_rows.specs.ClusterRows.{Cluster}
use Rattle.ge_model_rows.specs.EntryRows.{Entry}
use Rattle.ge_model_codec.specs.Reading.{Reading}
use Rattle.ge_model_codec.specs.declared.TakeFault.{TakeFault}
use Rattle.ge_model_jobs.specs.Applying.{after_entry}

-- the entry that is read was applied and ends there, or none can be read
abbrev pub AppliesEntry : Option ℕ → Cluster → Cluster → Reading Entry → Type 0
AppliesEntry None old new want = (fault : TakeFault) × (want ≡ Err fault)
AppliesEntry (Some end) old new want = (e : Entry) × (want ≡ Ok (e, end)) × (new ≡ after_entry old e)

abbrev pub EndsWithin : Option ℕ → ℕ → Type 0
EndsWithin None size = Unit {0}
EndsWithin (Some end) size = end ≤ size

-- a record was applied, or can't be read
abbrev pub ReadsRecord : Bool → Cluster → Option Cluster → Type 0
ReadsRecord true new want = want ≡ Some new
ReadsRecord false new want = want ≡ None
