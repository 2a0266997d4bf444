-- What a failed call of a disk may leave.
use Rattle.std.specs.Prelude.{◌≡◌, ◌⊎◌, ℕ, List}
use Rattle.ge_model_journal.specs.Disk.{Content, told_written}

-- a failed write counts as one under way, or nothing was begun
abbrev pub StaysOrWrites : List Content → List Content → ℕ → List ℕ → Type 0
StaysOrWrites old new at piece = (new ≡ old) ⊎ (new ≡ told_written old at piece)
