-- Of tasks that wait nothing is told.
use Rattle.std.proofs.Common.{◌≡◌, List, [], ◌∷◌, ◌++◌, map, refl, ap}
use Rattle.std.specs.Prelude.{flat_map, filter_map}
use Rattle.ge_model_rows.specs.DecisionRows.{Decision, Start, Reserve, Skip, start_of}
use Rattle.ge_model_rows.specs.EntryRows.{Run}
use Rattle.ge_model_rows.specs.EventRows.{Event}
use Rattle.ge_model_rows.specs.TaskRows.{TaskId}
use Rattle.ge_model_core.specs.Answers.{changed}
use Rattle.ge_model_core.specs.Scheduling.{decision_lines, decided}

no_lines : (decisions : List Decision) (tasks : List TaskId) → flat_map decision_lines (decisions ++ map (λ task. Skip task) tasks) ≡ flat_map decision_lines decisions
no_lines [] [] = refl
no_lines [] (task ∷ tasks) = no_lines [] tasks
no_lines (d ∷ decisions) tasks = ap (λ lines. decision_lines d ++ lines) (no_lines decisions tasks)

no_starts : (decisions : List Decision) (tasks : List TaskId) → filter_map start_of (decisions ++ map (λ task. Skip task) tasks) ≡ filter_map start_of decisions
no_starts [] [] = refl
no_starts [] (task ∷ tasks) = no_starts [] tasks
no_starts (Start start ∷ decisions) tasks = ap (λ starts. start ∷ starts) (no_starts decisions tasks)
no_starts (Reserve kept ∷ decisions) tasks = no_starts decisions tasks
no_starts (Skip task ∷ decisions) tasks = no_starts decisions tasks

pub nothing_told : (e : Event) (decisions : List Decision) (tasks : List TaskId) → decided e (decisions ++ map (λ task. Skip task) tasks) ≡ decided e decisions
nothing_told e decisions tasks = λ i. changed e (Run (no_starts decisions tasks i)) (no_lines decisions tasks i)
