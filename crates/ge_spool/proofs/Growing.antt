-- Areas tell more with each call of a disk.
use Rattle.std.specs.Prelude.{◌≡◌, ◌⊎◌, ℕ, ◌≤◌, List, [], ◌∷◌, length}
use Rattle.std.proofs.Common.{arith, inl, inr}
use Rattle.ge_model_journal.specs.Disk.{Content, told_written, told_synced}

pub length_written : (old new : List Content) (at : ℕ) (piece : List ℕ) → new ≡ told_written old at piece → length old ≤ length new
length_written [] new at piece written = omega arith
length_written (now ∷ earlier) new at piece written = rw written (omega arith)

pub length_failed : (old new : List Content) (at : ℕ) (piece : List ℕ) → (new ≡ old) ⊎ (new ≡ told_written old at piece) → length old ≤ length new
length_failed old new at piece (inl same) = rw same (omega arith)
length_failed old new at piece (inr written) = length_written old new at piece written

pub length_synced : (old new : List Content) → new ≡ told_synced old → length old ≤ length new
length_synced [] new synced = omega arith
length_synced (now ∷ earlier) new synced = rw synced (omega arith)
