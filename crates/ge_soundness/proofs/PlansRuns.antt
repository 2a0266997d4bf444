-- The serials of a run's starts: they follow on the next one of the cluster, up to the last that there is.
use Rattle.std.proofs.Common.{◌≡◌, ℕ, ◌+◌, ◌≤◌, List, [], ◌∷◌, ◌++◌, cond, filter_map, ap, subst, ◌∙◌, arith}
use Rattle.std.proofs.lemmas.List.Sums.{fold-append}
use Rattle.ge_model_rows.specs.ClusterRows.{Cluster}
use Rattle.ge_model_rows.specs.DecisionRows.{Decision, start_of}
use Rattle.ge_model_rows.specs.ScheduleRows.{Start}
use Rattle.ge_model_rows.specs.TaskRows.{TaskId}
use Rattle.ge_model_place.specs.Running.{is_start, serial_after, run_of}
use Rattle.ge_limits.specs.Limits.{last_serial}
use Rattle.ge_model_place.specs.Runs.{IsRunAfter, IsRun}
use Rattle.ge_model_place.proofs.Decided.{run_of_is_run}
use Rattle.ge_soundness.proofs.Starts.{AreNumbered}

-- one more start in front, with the serial before theirs
start_numbered : (serial : ℕ) (start : Start) (starts : List Start) → start.serial ≡ serial → start.serial ≤ last_serial → AreNumbered (serial + 1) starts → AreNumbered serial (start ∷ starts)
start_numbered serial start [] same most numbered = record { follow = (same, tt); in_range = λ some. omega (arith, same, most) }
start_numbered serial start (next ∷ starts) same most numbered = record {
  follow = (same, numbered.follow);
  in_range = λ some. let fits = numbered.in_range (omega arith) in omega (arith, fits);
}

-- the next serial after one more decision
serial_more : (c : Cluster) (before : List Decision) (one : Decision) → serial_after c (before ++ one ∷ []) ≡ serial_after c before + cond (is_start one) 1 0
serial_more c before one =
    ap (λ n. c.next_serial + n) (fold-append (λ n d. n + cond (is_start d) 1 0) 0 before (one ∷ [])) ∙ omega arith

-- the starts of decisions that come after others have the serials from the next one on
numbered_after : (c : Cluster) (now : ℕ) (before : List Decision) (tasks : List TaskId) (decisions : List Decision) → IsRunAfter c now before tasks decisions
    → AreNumbered (serial_after c before) (filter_map start_of decisions)
numbered_after c now before [] [] run = record { follow = tt; in_range = λ some. absurd (omega arith) }
numbered_after c now before [] (d ∷ decisions) run = absurd run
numbered_after c now before (task ∷ tasks) [] run = absurd run
numbered_after c now before (task ∷ tasks) (Decision.Start start ∷ decisions) (first, run) =
    let rest = numbered_after c now (before ++ Decision.Start start ∷ []) tasks decisions run in
    start_numbered (serial_after c before) start (filter_map start_of decisions) first.1.next first.1.in_range
    (subst (λ n. AreNumbered n (filter_map start_of decisions)) (serial_more c before (Decision.Start start)) rest)
numbered_after c now before (task ∷ tasks) (Decision.Reserve kept ∷ decisions) (first, run) =
    let rest = numbered_after c now (before ++ Decision.Reserve kept ∷ []) tasks decisions run in
    let same : serial_after c (before ++ Decision.Reserve kept ∷ []) ≡ serial_after c before = serial_more c before (Decision.Reserve kept) ∙ omega arith in
    subst (λ n. AreNumbered n (filter_map start_of decisions)) same rest
numbered_after c now before (task ∷ tasks) (Decision.Skip skipped ∷ decisions) (first, run) =
    let rest = numbered_after c now (before ++ Decision.Skip skipped ∷ []) tasks decisions run in
    let same : serial_after c (before ++ Decision.Skip skipped ∷ []) ≡ serial_after c before = serial_more c before (Decision.Skip skipped) ∙ omega arith in
    subst (λ n. AreNumbered n (filter_map start_of decisions)) same rest

-- those of a run have the serials from the cluster's next one on
pub run_is_numbered : (c : Cluster) (tasks : List TaskId) (now : ℕ) → AreNumbered c.next_serial (filter_map start_of (run_of c tasks now))
unfolding IsRun
run_is_numbered c tasks now =
    let none : serial_after c [] ≡ c.next_serial = omega arith in
    subst (λ n. AreNumbered n (filter_map start_of (run_of c tasks now))) none (numbered_after c now [] tasks (run_of c tasks now) (run_of_is_run c now tasks))
