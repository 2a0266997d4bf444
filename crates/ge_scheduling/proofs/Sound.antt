-- What holds of the run that is computed.
use Rattle.std.proofs.Common.{◌≡◌, ℕ, List, [], ◌∷◌, ◌++◌, Some, Result, Ok, Err, IfOk, sym, subst, append_assoc}
use Rattle.std.proofs.lemmas.List.{append-nil}
use Rattle.ge_collections.specs.Keyed.{at_number}
use Rattle.ge_model_rows.specs.ClusterRows.{Cluster}
use Rattle.ge_model_rows.specs.DecisionRows.{Decision, Reserve}
use Rattle.ge_model_rows.specs.TaskRows.{TaskId}
use Rattle.ge_model_place.specs.Runs.{IsDecided, IsRunAfter, IsRun}
use Rattle.ge_model_place.specs.Running.{run_of}
use Rattle.ge_model_place.proofs.Decided.{run_of_is_run}
use Rattle.ge_model_place.proofs.Sooner.{earliest}
use Rattle.ge_scheduling.specs.Sooner.{ReservesEarliest}

-- what holds of a value holds of what it is
pub holds_of_it : {A E : Type 0} (P : A → Type 0) (v : A) (r : Result A E) → IfOk r (λ x. x ≡ v) → P v → IfOk r P
holds_of_it P v (Ok x) e p = subst P (sym e) p
holds_of_it P v (Err x) e p = tt

module _ (c : Cluster) (now : ℕ) where
  -- each decision of a run may come after those before it
  decided_there : (so_far before : List Decision) (d : Decision) (behind : List Decision) (tasks : List TaskId) → IsRunAfter c now so_far tasks (before ++ d ∷ behind)
      → (task : TaskId) × IsDecided c now (so_far ++ before) task d
  decided_there so_far [] d behind [] run = absurd run
  decided_there so_far [] d behind (task ∷ tasks) run = (task, subst (λ ds. IsDecided c now ds task d) (sym (append-nil so_far)) run.0)
  decided_there so_far (x ∷ before) d behind [] run = absurd run
  decided_there so_far (x ∷ before) d behind (task ∷ tasks) run =
      let rest = decided_there (so_far ++ x ∷ []) before d behind tasks run.1 in
      (rest.0, subst (λ ds. IsDecided c now ds rest.0 d) (append_assoc so_far (x ∷ []) before) rest.1)

  reserved_early : (tasks : List TaskId) (decisions : List Decision) → IsRun c tasks now decisions → ReservesEarliest c now decisions
  unfolding IsRun
  reserved_early tasks decisions run before behind kept job parts found none moment later less =
      let there = decided_there [] before (Reserve kept) behind tasks (subst (λ ds. IsRunAfter c now [] tasks ds) parts run) in
      let is = there.1 in
      earliest c now before there.0 job kept.at kept.grants (subst (λ (task : TaskId). at_number c.jobs task.job ≡ Some job) is.0 found) none is.1 moment later less

  pub run_reserves_early : (tasks : List TaskId) → ReservesEarliest c now (run_of c tasks now)
  run_reserves_early tasks = reserved_early tasks (run_of c tasks now) (run_of_is_run c now tasks)
