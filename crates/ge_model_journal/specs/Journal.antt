-- What two areas stand for.
use Rattle.std.specs.Prelude.{◌≡◌, ◌⊎◌, ℕ, ◌+◌, Bool, true, false, ◌==◌, nat_lt, if◌then◌else◌, List, [], ◌∷◌, ◌++◌, length, take, drop, Result, Ok, Err}
use Rattle.ge_model_journal.specs.Area.{head, records_of, written_format}
use Rattle.ge_model_journal.specs.declared.Header.{Header}
use Rattle.ge_model_journal.specs.declared.Head.{Head}
use Rattle.ge_model_journal.specs.declared.Head.TheVariants.{Closed, Faulty, Overlong, Sound}
use Rattle.ge_model_journal.specs.declared.Choice.{Choice}
use Rattle.ge_model_journal.specs.declared.Choice.TheVariants.{Neither, Chosen, Wrong}

-- the second of two or the first
abbrev pub picked : {T : Type 0} → Bool → T → T → T
picked false first second = first
picked true first second = second

-- Which area counts: the open one of greater generation. A wrong header is told first, that of the first area before that of the
-- second and field by field, two equal generations at the generation of the second.
abbrev pub choice : Head → Head → Choice
choice (Faulty place) b = Wrong 0 place
choice (Overlong generation) b = Wrong 0 10
choice Closed Closed = Neither
choice Closed (Faulty place) = Wrong 1 place
choice Closed (Overlong generation) = Wrong 1 10
choice Closed (Sound header) = Chosen true header
choice (Sound header) Closed = Chosen false header
choice (Sound header) (Faulty place) = Wrong 1 place
choice (Sound x) (Overlong generation) = if x.generation == generation then Wrong 1 2 else Wrong 1 10
choice (Sound x) (Sound y) = if x.generation == y.generation then Wrong 1 2 else (if nat_lt y.generation x.generation then Chosen false x else Chosen true y)

-- the number of an area
abbrev pub area_number : Bool → ℕ
area_number second = if second then 1 else 0

-- the area that counts, or whose header is wrong; where none is open, the first is made
abbrev pub counted_area : Choice → ℕ
counted_area Neither = 0
counted_area (Chosen second header) = area_number second
counted_area (Wrong area place) = area

-- a format and a generation, with its snapshot and the records since, in order
pub record State : Type 0 where
  pub format : ℕ
  pub generation : ℕ
  pub snapshot : List ℕ
  pub records : List (List ℕ)

-- what a journal stands for in which nothing was written yet
abbrev pub first_state : State
first_state = record { format = written_format; generation = 1; snapshot = []; records = [] }

-- the header of an area that stands for a state
abbrev pub header_of : State → Header
header_of s = record { format = s.format; generation = s.generation; size = length s.snapshot }

-- what the area that counts stands for, or the area and the place where its records are wrong
abbrev pub state_of : ℕ → Header → List ℕ → Result (List (List ℕ) × ℕ) ℕ → Result State (ℕ × ℕ)
state_of area header snapshot (Ok found) = Ok (record { format = header.format; generation = header.generation; snapshot = snapshot; records = found.0 })
state_of area header snapshot (Err place) = Err (area, place)

abbrev pub meaning_by : Choice → List ℕ → List ℕ → Result State (ℕ × ℕ)
meaning_by Neither a b = Ok first_state
meaning_by (Wrong area place) a b = Err (area, place)
meaning_by (Chosen second header) a b =
    state_of (area_number second) header (take header.size (drop 18 (picked second a b))) (records_of header.size (picked second a b))

-- What two areas stand for, or else the area and the place of the first field that is wrong.
unfoldable pub meaning : List ℕ → List ℕ → Result State (ℕ × ℕ)
meaning a b = meaning_by (choice (head a) (head b)) a b

-- a state with one record more
abbrev pub with_record : State → List ℕ → State
with_record s body = record { format = s.format; generation = s.generation; snapshot = s.snapshot; records = s.records ++ body ∷ [] }

-- the state that a compaction makes of a state
abbrev pub compacted : State → List ℕ → State
compacted s snapshot = record { format = written_format; generation = s.generation + 1; snapshot = snapshot; records = [] }

-- two areas stand for the one state or for the other
abbrev pub IsOneOf : State → State → List ℕ → List ℕ → Type 0
IsOneOf before after a b = (meaning a b ≡ Ok before) ⊎ (meaning a b ≡ Ok after)
