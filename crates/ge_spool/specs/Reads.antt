-- What reading an area answers.
use Rattle.std.specs.Prelude.{◌≡◌, ℕ, ◌-◌, ◌^◌, ◌<◌, ◌≤◌, true, List, [], ◌∷◌, ◌++◌, length, Result, Ok, Err}
use Rattle.ge_model_journal.specs.Disk.{Content}
use Rattle.ge_model_journal.specs.Area.{head, is_format}
use Rattle.ge_model_journal.specs.declared.Head.{Head}
use Rattle.ge_model_journal.specs.declared.Head.TheVariants.{Closed, Faulty, Overlong, Sound}
use Rattle.ge_spool.specs.declared.faults.OpenFault.{OpenFault}
use Rattle.ge_spool.specs.declared.faults.OpenFault.TheVariants.{Disk, Frame, Bad, Memory}

-- records in front of what else is found
abbrev pub and_records : List (List ℕ) → Result (List (List ℕ) × ℕ) ℕ → Result (List (List ℕ) × ℕ) ℕ
and_records records (Ok found) = Ok (records ++ found.0, found.1)
and_records records (Err place) = Err place

-- records with the place of the gate behind them, as they were found in an area, or the place of what is wrong; no memory is free
abbrev pub ReadsRecords : Result (List (List ℕ) × ℕ) OpenFault → ℕ → Result (List (List ℕ) × ℕ) ℕ → Type 0
ReadsRecords (Ok read) area found = found ≡ Ok (read.0, read.1)
ReadsRecords (Err Disk) area found = ⊥
ReadsRecords (Err (Frame number place)) area found = (number ≡ area) × (found ≡ Err place)
ReadsRecords (Err (Bad number place)) area found = ⊥
ReadsRecords (Err Memory) area found = Unit {0}

-- a header as it was read, with the length of its area
abbrev pub IsHeadOf : List Content → ℕ → Head → Type 0
IsHeadOf [] size h = Unit {0}
IsHeadOf (now ∷ earlier) size h = (size ≡ length now.bytes) × (h ≡ head now.bytes)

-- an area of this format and generation can be followed by one of the next generation: in format 1 none is the last
abbrev pub GoesOn : ℕ → ℕ → Type 0
GoesOn format generation = format ≡ 1 → generation < 2 ^ 64 - 1

-- a header whose fields fit
abbrev pub FitsHead : ℕ → Head → Type 0
FitsHead size Closed = Unit {0}
FitsHead size (Faulty place) = Unit {0}
FitsHead size (Overlong generation) = Unit {0}
FitsHead size (Sound header) = (19 ≤ size) × (header.size ≤ size - 18) × (is_format header.format ≡ true) × GoesOn header.format header.generation
