-- What a run under way has decided.
use Rattle.std.proofs.Common.{◌≡◌, ℕ, false, List, [], ◌++◌, fold, map, sym, ap, ◌∙◌, arith}
use Rattle.std.proofs.lemmas.List.Sums.{fold-append}
use Rattle.ge_model_rows.specs.ClusterRows.{Cluster}
use Rattle.ge_model_rows.specs.DecisionRows.{Decision}
use Rattle.ge_model_rows.specs.HostRows.{Groups, InstanceId}
use Rattle.ge_model_rows.specs.ScheduleRows.{Booking}
use Rattle.ge_model_rows.specs.TaskRows.{TaskId}
use Rattle.ge_model_rows.specs.Groups.{expanded}
use Rattle.ge_model_place.specs.InstanceOrder.{instance_order}
use Rattle.ge_model_place.specs.Running.{task_of, decide, decided, run_of}
use Rattle.ge_model_place.specs.Windows.{base_bookings}
use Rattle.ge_model_place.proofs.Decided.{run_of_is_run}
use Rattle.ge_model_place.proofs.Laws.{decides_each}
use Rattle.ge_scheduling.specs.declared.underway.Run.{Run}
use Rattle.ge_scheduling.specs.Bases.{may_keep}
use Rattle.ge_scheduling.specs.UnderWay.{IsUnderWay, OthersWait, tasks_decided}
use Rattle.ge_attempts.proofs.LeftOut.{nothing_placed}
use Rattle.ge_attempts.proofs.Remaining.{none_open}
use Rattle.ge_scheduling.proofs.Waiting.{each_waits}

module _ (c : Cluster) (groups : Groups) (order : List InstanceId) (now : ℕ) where
  -- none is decided yet
  pub first_made : (booked : List Booking) (decisions : List Decision) → booked ≡ base_bookings c groups now → decisions ≡ [] → (booked, decisions) ≡ decided c groups order now (map task_of decisions)
  first_made booked decisions books none =
      let both : (booked, decisions) ≡ (base_bookings c groups now, []) = λ i. (books i, none i) in
      both ∙ sym (ap (λ (ds : List Decision). decided c groups order now (map task_of ds)) none)

  -- more tasks
  more_made : (booked more : List Booking) (decisions longer : List Decision) (before tasks : List TaskId) → (booked, decisions) ≡ decided c groups order now before
      → (more, longer) ≡ fold (decide c groups order now) (booked, decisions) tasks → (more, longer) ≡ decided c groups order now (before ++ tasks)
  more_made booked more decisions longer before tasks made next =
      next ∙ ap (λ so_far. fold (decide c groups order now) so_far tasks) made ∙ sym (fold-append (decide c groups order now) (base_bookings c groups now, []) before tasks)

  module _ (spelled : groups ≡ expanded c) (ordered : order ≡ instance_order c groups) where
    -- the decisions are those of the model's run
    pub of_run : (tasks : List TaskId) → (decided c groups order now tasks).1 ≡ run_of c tasks now
    unfolding run_of
    of_run tasks = (λ i. (decided c groups (ordered i) now tasks).1) ∙ (λ i. (decided c (spelled i) (instance_order c (spelled i)) now tasks).1)

    same_tasks : (booked : List Booking) (decisions : List Decision) (tasks : List TaskId) → (booked, decisions) ≡ decided c groups order now tasks → map task_of decisions ≡ tasks
    same_tasks booked decisions tasks made =
        ap (λ (so_far : List Booking × List Decision). map task_of so_far.1) made
        ∙ ap (λ (ds : List Decision). map task_of ds) (of_run tasks)
        ∙ decides_each c now tasks (run_of c tasks now) (run_of_is_run c now tasks)

    module _ (booked more : List Booking) (decisions longer : List Decision) (tasks : List TaskId) (made : (booked, decisions) ≡ decided c groups order now (map task_of decisions))
        (next : (more, longer) ≡ fold (decide c groups order now) (booked, decisions) tasks) where
      pub more_tasks : map task_of longer ≡ map task_of decisions ++ tasks
      more_tasks = same_tasks more longer (map task_of decisions ++ tasks) (more_made booked more decisions longer (map task_of decisions) tasks made next)

      pub still_made : (more, longer) ≡ decided c groups order now (map task_of longer)
      still_made = more_made booked more decisions longer (map task_of decisions) tasks made next ∙ sym (ap (λ (ts : List TaskId). decided c groups order now ts) more_tasks)

module _ (c : Cluster) (run : Run) (is : IsUnderWay c run) where
  pub run_made : run.so_far.decisions ≡ run_of c (tasks_decided run) run.moment
  run_made = ap (λ (so_far : List Booking × List Decision). so_far.1) is.made ∙ of_run c run.groups run.order run.moment is.spelled is.ordered (tasks_decided run)

  -- where no slot is left, and none may be kept
  pub others_waiting : run.so_far.room.vacant ≡ [] → c.advances ≡ [] → may_keep c run.so_far.tally.reserved ≡ false → OthersWait c run
  others_waiting none_left no_advances none_kept others =
      let kept = is.tallied.kept in
      sym (of_run c run.groups run.order run.moment is.spelled is.ordered (tasks_decided run ++ others))
      ∙ ap (λ (so_far : List Booking × List Decision). so_far.1) (fold-append (decide c run.groups run.order run.moment) (base_bookings c run.groups run.moment, []) (tasks_decided run) others)
      ∙ ap (λ (so_far : List Booking × List Decision). (fold (decide c run.groups run.order run.moment) so_far others).1) (sym is.made)
      ∙ each_waits c run.so_far.tally.reserved none_kept run.groups run.order run.moment run.so_far.booked
      (λ job there. nothing_placed c run.groups run.moment run.so_far.booked run.order job (none_open c run.groups run.moment run.so_far.booked run.order run.so_far.room is.left none_left job there) no_advances) run.so_far.decisions (omega (arith, kept)) others
