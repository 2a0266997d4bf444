-- What reading the body of a record answers.
use Rattle.std.specs.Prelude.{◌≡◌, ℕ, ◌<◌, ◌≤◌, List, length, Option, Some, None, Result, Ok, Err}
use Rattle.ge_model_rows.specs.AccountRows.{Line}
use Rattle.ge_model_codec.specs.Reading.{Reading}
use Rattle.ge_model_codec.specs.declared.TakeFault.{TakeFault}
use Rattle.ge_model_log.specs.declared.Wrong.{Wrong}
use Rattle.ge_model_log.specs.declared.Wrong.TheVariants as wrong
use Rattle.ge_acctlog.specs.declared.faults.LogFault.{LogFault}
use Rattle.ge_acctlog.specs.declared.faults.LogFault.TheVariants.{Disk, Frame, Bad, Memory}

-- the line that is read and where it ends, or none
abbrev pub TakesLine : Option (Line × ℕ) → Reading Line → Type 0
TakesLine None want = (fault : TakeFault) × (want ≡ Err fault)
TakesLine (Some p) want = want ≡ Ok p

abbrev pub EndsWithin : Option (Line × ℕ) → ℕ → Type 0
EndsWithin None size = Unit {0}
EndsWithin (Some p) size = p.1 ≤ size

-- the lines of a body of so many bytes, if it is whole lines: at least one, and no more than it has bytes
abbrev pub HasLines : Option (List Line) → Option (List Line) → ℕ → Type 0
HasLines None want size = want ≡ None
HasLines (Some lines) want size = (want ≡ Some lines) × (0 < length lines) × (length lines ≤ size)

-- how many there are
abbrev pub HasCount : Option ℕ → Option (List Line) → ℕ → Type 0
HasCount None want size = want ≡ None
HasCount (Some count) want size = (lines : List Line) × (want ≡ Some lines) × (count ≡ length lines) × (count ≤ size)

-- how many lines a log has and where their list ends, or what is wrong first
abbrev pub Counts : Result (ℕ × ℕ) LogFault → Result (List Line × ℕ) Wrong → Type 0
Counts (Ok found) want = (lines : List Line) × (want ≡ Ok (lines, found.1)) × (found.0 ≡ length lines)
Counts (Err Disk) want = ⊥
Counts (Err (Frame place)) want = want ≡ Err (wrong.Frame place)
Counts (Err (Bad place)) want = want ≡ Err (wrong.Bad place)
Counts (Err Memory) want = Unit {0}
