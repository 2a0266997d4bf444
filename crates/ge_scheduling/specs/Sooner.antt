-- Reservations of a run are as early as they can be.
use Rattle.std.specs.Prelude.{◌≡◌, ℕ, ◌<◌, false, List, ◌∷◌, ◌++◌, Some, None}
use Rattle.ge_collections.specs.Keyed.{at_number}
use Rattle.ge_model_rows.specs.ClusterRows.{Cluster}
use Rattle.ge_model_rows.specs.DecisionRows.{Decision}
use Rattle.ge_model_rows.specs.JobRows.{Job}
use Rattle.ge_model_rows.specs.ScheduleRows.{Reservation}
use Rattle.ge_model_place.specs.Runs.{some_admissible}

-- where a task of a job without a PE is reserved, no instance was admissible at a moment after now and before its reservation, over what was decided before
abbrev pub ReservesEarliest : Cluster → ℕ → List Decision → Type 0
ReservesEarliest c now decisions = (before behind : List Decision) (kept : Reservation) (job : Job) → decisions ≡ before ++ Decision.Reserve kept ∷ behind
    → at_number c.jobs kept.task.job ≡ Some job → job.request.pe ≡ None → (moment : ℕ) → now < moment → moment < kept.at → some_admissible c now before job moment ≡ false
