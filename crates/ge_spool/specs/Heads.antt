-- What the header of the area says that doesn't count.
use Rattle.std.specs.Prelude.{ℕ, ◌<◌, Bool, true, false}
use Rattle.ge_model_journal.specs.declared.Head.{Head}
use Rattle.ge_model_journal.specs.declared.Head.TheVariants.{Closed, Faulty, Overlong, Sound}

-- a header is that of an open area
abbrev pub is_sound : Head → Bool
is_sound Closed = false
is_sound (Faulty place) = false
is_sound (Overlong generation) = false
is_sound (Sound header) = true

-- an area with this header doesn't count beside one of a generation
abbrev pub IsLower : Head → ℕ → Type 0
IsLower Closed generation = Unit {0}
IsLower (Faulty place) generation = ⊥
IsLower (Overlong other) generation = ⊥
IsLower (Sound header) generation = header.generation < generation
