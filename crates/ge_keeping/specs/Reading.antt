-- What reading a journal's snapshot and records answers.
use Rattle.std.specs.Prelude.{◌≡◌, ℕ, ◌+◌, Option, Some, None, Result, Ok, Err}
use Rattle.ge_spool.specs.declared.faults.OpenFault.{OpenFault}
use Rattle.ge_spool.specs.declared.faults.OpenFault.TheVariants.{Disk, Frame, Bad, Memory}

-- the value of a snapshot, or that it can't be read, which stands at a place
abbrev pub ReadsPart : {T : Type 0} → Option T → Result T ℕ → ℕ → Type 0
ReadsPart (Some t) want place = want ≡ Ok t
ReadsPart None want place = want ≡ Err place

-- the value of a journal whose area has this number, or the place of what can't be read; no memory is free
abbrev pub ReadsBack : {T : Type 0} → Result T OpenFault → ℕ → Result T ℕ → Type 0
ReadsBack (Ok t) area want = want ≡ Ok t
ReadsBack (Err Disk) area want = ⊥
ReadsBack (Err (Frame number place)) area want = ⊥
ReadsBack (Err (Bad number place)) area want = (number ≡ area) × (want ≡ Err place)
ReadsBack (Err Memory) area want = Unit {0}

-- A record of so many bytes behind a gate was read and makes what is wanted of it, and the next gate stands behind it; or the record
-- can't be read. No memory is free.
abbrev pub ReadsBehind : {T : Type 0} → Result ℕ OpenFault → ℕ → ℕ → ℕ → T → Option T → Type 0
ReadsBehind (Ok next) area gate size new want = (next ≡ gate + 5 + size) × (want ≡ Some new)
ReadsBehind (Err Disk) area gate size new want = ⊥
ReadsBehind (Err (Frame number place)) area gate size new want = ⊥
ReadsBehind (Err (Bad number place)) area gate size new want = (number ≡ area) × (place ≡ gate + 5) × (want ≡ None)
ReadsBehind (Err Memory) area gate size new want = Unit {0}
