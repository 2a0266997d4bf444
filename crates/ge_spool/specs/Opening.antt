-- What opening a journal reads and leaves.
use Rattle.std.specs.Prelude.{◌≡◌, ◌⊎◌, ℕ, ◌+◌, ◌^◌, ◌<◌, ◌≤◌, List, [], ◌∷◌, length, take, drop, Result, Ok, Err}
use Rattle.ge_model_journal.specs.Disk.{Content, read_bytes}
use Rattle.ge_model_journal.specs.Area.{head, records_from, records_of, end_from}
use Rattle.ge_model_journal.specs.Journal.{State, first_state, header_of, choice, meaning, area_number, counted_area}
use Rattle.ge_model_journal.specs.Writing.{first_opened, second_opened}
use Rattle.ge_model_journal.specs.declared.Head.TheVariants.{Closed, Sound}
use Rattle.ge_spool.specs.Settled.{IsSettled}
use Rattle.ge_spool.specs.declared.spool.Spool.{Spool}
use Rattle.ge_spool.specs.declared.raw.Raw.{Raw}
use Rattle.ge_spool.specs.declared.faults.OpenFault.{OpenFault}
use Rattle.ge_spool.specs.declared.faults.OpenFault.TheVariants.{Disk, Frame, Bad, Memory}
use Rattle.ge_spool.specs.declared.finding.Found.{Found}

-- a disk tells its content
abbrev pub Tells : List Content → Type 0
Tells [] = ⊥
Tells (now ∷ earlier) = Unit {0}

-- What was found in bytes that follow a header, with a snapshot of so many of them; or the place of what is wrong.
abbrev pub FindsInRest : Result Found OpenFault → ℕ → ℕ → List ℕ → Type 0
FindsInRest (Ok found) area n rest =
    (records_from (length (drop n rest)) (18 + n) (drop n rest) ≡ Ok (found.records, found.end)) × (found.snapshot ≡ take n rest)
FindsInRest (Err Disk) area n rest = Unit {0}
FindsInRest (Err (Frame number place)) area n rest = (number ≡ area) × (records_from (length (drop n rest)) (18 + n) (drop n rest) ≡ Err place)
FindsInRest (Err (Bad number place)) area n rest = ⊥
FindsInRest (Err Memory) area n rest = Unit {0}

-- the same in an area, where it tells
abbrev pub FindsIn : Result Found OpenFault → ℕ → ℕ → List Content → Type 0
FindsIn result area n [] = Unit {0}
FindsIn result area n (now ∷ earlier) = FindsInRest result area n (drop 18 now.bytes)

-- a list that was found ends within an area of this length, right behind its records
abbrev pub FitsFound : Found → ℕ → Type 0
FitsFound found size =
    (found.end < size) × (length found.records ≤ found.end) × (found.end ≡ end_from (18 + length found.snapshot) found.records)

-- an answer that blames a disk has a reason, and bodies are never blamed
abbrev pub Blames : {T : Type 0} → Result T OpenFault → Type 0 → Type 0
Blames (Ok x) reason = Unit {0}
Blames (Err Disk) reason = reason
Blames (Err (Frame area place)) reason = Unit {0}
Blames (Err (Bad area place)) reason = ⊥
Blames (Err Memory) reason = Unit {0}

-- what follows the header of an area, where it tells
abbrev pub ReadsRest : List Content → List ℕ → Type 0
ReadsRest [] rest = Unit {0}
ReadsRest (now ∷ earlier) rest = rest ≡ drop 18 now.bytes

-- an answer that blames no frame
abbrev pub IsNoFrame : {T : Type 0} → Result T OpenFault → Type 0
IsNoFrame (Ok x) = Unit {0}
IsNoFrame (Err Disk) = Unit {0}
IsNoFrame (Err (Frame area place)) = ⊥
IsNoFrame (Err (Bad area place)) = ⊥
IsNoFrame (Err Memory) = Unit {0}

-- while an area below 19 bytes gets a closed gate, it is what it was, or short still
abbrev pub IsPadImage : List ℕ → List ℕ → Type 0
IsPadImage bytes image = (image ≡ bytes) ⊎ ((length bytes < 19) × (length image < 19))

-- what an area may hold that is made the first one: it isn't open, or it is open with nothing in it
abbrev pub IsFreshImage : List ℕ → Type 0
IsFreshImage image = (head image ≡ Closed) ⊎ ((head image ≡ Sound (header_of first_state)) × (records_of 0 image ≡ Ok ([], 18)))

-- the state that was read
abbrev pub raw_state : Raw → State
raw_state raw = record { format = raw.format; generation = raw.generation; snapshot = raw.snapshot; records = raw.records }

-- What opening leaves where the areas read as these bytes: a journal at rest with what they stand for, the area that counts, and what
-- the areas read now.
pub record HasOpened (s : Spool) (raw : Raw) (read_a read_b : List ℕ) (a b : List Content) : Type 0 where
  pub settled : IsSettled s a b (raw_state raw)
  pub stands : meaning read_a read_b ≡ Ok (raw_state raw)
  pub area : raw.area ≡ counted_area (choice (head read_a) (head read_b))
  pub first : read_bytes a ≡ first_opened (choice (head read_a) (head read_b)) read_a
  pub second : read_bytes b ≡ second_opened (choice (head read_a) (head read_b)) read_b

-- A journal that was opened keeps what was read, for disks that tell nothing too. The list ends behind its records, so the place of each
-- of them is the sum of the sizes before it.
pub record Agrees (s : Spool) (raw : Raw) : Type 0 where
  pub area : raw.area ≡ area_number s.second
  pub format : raw.format ≡ s.format
  pub generation : raw.generation ≡ s.generation
  pub count : length raw.records ≡ s.records
  pub end : s.end ≡ end_from (18 + length raw.snapshot) raw.records
  pub below : s.end < 2 ^ 63

-- What opening answers where the areas read as these bytes: a journal, or the place of the first field that is wrong.
abbrev pub Opens : Result (Spool × Raw) OpenFault → List ℕ → List ℕ → List Content → List Content → Type 0
Opens (Ok opened) read_a read_b a b = HasOpened opened.0 opened.1 read_a read_b a b
Opens (Err Disk) read_a read_b a b = Unit {0}
Opens (Err (Frame area place)) read_a read_b a b = meaning read_a read_b ≡ Err (area, place)
Opens (Err (Bad area place)) read_a read_b a b = ⊥
Opens (Err Memory) read_a read_b a b = Unit {0}

-- a fact where a frame is blamed
abbrev pub OnFrame : {T : Type 0} → Result T OpenFault → Type 0 → Type 0
OnFrame (Ok x) P = Unit {0}
OnFrame (Err Disk) P = Unit {0}
OnFrame (Err (Frame area place)) P = P
OnFrame (Err (Bad area place)) P = Unit {0}
OnFrame (Err Memory) P = Unit {0}
