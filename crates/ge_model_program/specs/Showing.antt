-- A look at the areas: what they hold, in one line.
use Rattle.std.specs.Prelude.{◌≡◌, ◌≢◌, ◌⊎◌, ℕ, ◌+◌, ◌≤◌, List, [], ◌∷◌, ◌++◌, length, decimal, codes, Some, Ok, IfSome, IsErr}
use Rattle.ge_outside.specs.Faults.{Rose}
use Rattle.ge_outside.specs.Streams.{Gains, GainsPrefix}
use Rattle.ge_model_rows.specs.ClusterRows.{Cluster}
use Rattle.ge_model_journal.specs.Disk.{IsImageSince}
use Rattle.ge_model_journal.specs.Journal.{State, meaning}
use Rattle.ge_model_program.specs.StandsFor.{stands_for}
use Rattle.ge_model_program.specs.View.{View, DiskRose, said_of, AreStill, AreKept}
use Rattle.ge_model_program.specs.Statuses.{IsOneStatusOf}

-- the generation, how many records stand behind the snapshot, and how many jobs live
unfoldable pub status_line : ℕ → ℕ → ℕ → List ℕ
status_line generation records jobs =
    codes "generation " ++ decimal generation ++ codes " records " ++ decimal records ++ codes " jobs " ++ decimal jobs ++ 10 ∷ []

-- Exit statuses: 0 done, 4 the areas stand for nothing, 7 a write failed, 8 an area failed, 10 want of memory. The one line is written at 0
-- and a front of it at 7. Whatever the status, a stop at any moment leaves what the areas stood for.
pub record ShowsAreas (status : ℕ) (x y : View) : Type 0 where
  pub statuses : (status ≡ 4) ⊎ (status ≡ 8) ⊎ IsOneStatusOf (0 ∷ 7 ∷ 10 ∷ []) status
  pub whole : (start : Cluster) (state : State) → said_of stands_for x.a x.b ≡ Some (Ok start) → said_of meaning x.a x.b ≡ Some (Ok state)
      → status ≡ 0 → Gains x.output y.output (status_line state.generation (length state.records) (length start.jobs))
  pub cut : (start : Cluster) (state : State) → said_of stands_for x.a x.b ≡ Some (Ok start) → said_of meaning x.a x.b ≡ Some (Ok state)
      → status ≡ 7 → GainsPrefix x.output y.output (status_line state.generation (length state.records) (length start.jobs))
  pub line : status ≡ 0 → (generation records jobs : ℕ) × Gains x.output y.output (status_line generation records jobs)
  pub unwritten : status ≢ 0 → status ≢ 7 → y.output ≡ x.output
  pub images : (start : Cluster) → said_of stands_for x.a x.b ≡ Some (Ok start) → AreStill x
      → (c d : List ℕ) → IsImageSince (length x.a) y.a c → IsImageSince (length x.b) y.b d → stands_for c d ≡ Ok start
  pub refused : status ≡ 4 → IfSome (said_of stands_for x.a x.b) IsErr
  pub kept : status ≡ 4 → AreKept x y
  pub not_opened : IfSome (said_of stands_for x.a x.b) (λ stood. IsErr stood → IsOneStatusOf (4 ∷ 8 ∷ 10 ∷ []) status)
  pub written : status ≡ 7 → Rose x.writes y.writes
  pub disk : status ≡ 8 → DiskRose x y
  pub syncs : y.syncs ≤ x.syncs + 6
