-- Both areas around a call.
use Rattle.std.specs.Prelude.{◌⊎◌, ℕ, ◌+◌, List, length}
use Rattle.ge_model_journal.specs.Disk.{Content, IsImageSince}
use Rattle.ge_outside.specs.Faults.{Rose}

-- what the two areas tell, how often they were synced, together, and how often a call of each failed
pub record Areas : Type 0 where
  pub a : List Content
  pub b : List Content
  pub syncs : ℕ
  pub faults_a : ℕ
  pub faults_b : ℕ

-- both areas at a moment, from what a disk tells, its count of syncs and its count of faults
abbrev pub areas_of : {D : Type 0} → (D → List Content) → (D → ℕ) → (D → ℕ) → D → D → Areas
areas_of told syncs faults a b =
    record { a = told a; b = told b; syncs = syncs a + syncs b; faults_a = faults a; faults_b = faults b }

-- a disk failed between two moments
abbrev pub HasFailed : Areas → Areas → Type 0
HasFailed before after = Rose before.faults_a after.faults_a ⊎ Rose before.faults_b after.faults_b

-- a fact of every pair of images at each moment from the one on
abbrev pub EachSince : Areas → Areas → (List ℕ → List ℕ → Type 0) → Type 0
EachSince before after Q =
    (c d : List ℕ) → IsImageSince (length before.a) after.a c → IsImageSince (length before.b) after.b d → Q c d
