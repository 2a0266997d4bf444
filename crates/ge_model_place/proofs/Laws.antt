-- Laws of runs: there is one, it decides each task once and in order, and bookings only grow along it.
use Rattle.std.proofs.Common.{◌≡◌, ℕ, ◌<◌, inl, inr, true, false, Bool, List, [], ◌∷◌, ◌++◌, fold, flat_map, Option, Some, None, is_some, refl, sym, subst, ap, ◌∙◌, append_assoc, arith}
use Rattle.std.specs.Prelude.{nat_lt}
use Rattle.std.proofs.lemmas.Bool.{cond-true, cond-false, cases_Bool, true≢false, false_from_ne_true, lt-ltb, le-ltb}
use Rattle.std.proofs.lemmas.List.{append-nil}
use Rattle.std.proofs.lemmas.List.Concat.{flat_map-append}
use Rattle.ge_collections.specs.Keyed.{at_number}
use Rattle.ge_model_rows.specs.Groups.{expanded}
use Rattle.ge_model_rows.specs.ClusterRows.{Cluster}
use Rattle.ge_model_rows.specs.DecisionRows.{Decision, Start, Reserve, Skip}
use Rattle.ge_model_rows.specs.JobRows.{Grant}
use Rattle.ge_model_rows.specs.ScheduleRows.{Booking, Start as Starting, Reservation}
use Rattle.ge_model_rows.specs.TaskRows.{TaskId}
use Rattle.ge_model_place.specs.Windows.{base_bookings}
use Rattle.ge_model_place.specs.Running.{task_of, serial_after, is_held_back, may_reserve, booked_by, reserve_at, placed_at, first_moment, reserve_from, later_decision, decision_with, decision_of, decide, run_of}
use Rattle.ge_limits.specs.Limits.{last_serial}
use Rattle.ge_model_place.specs.Runs.{bookings_after, placed_after, IsEnd, IsUnplaced, IsSkipped, IsStarted, IsReserved, IsDecided, IsRunAfter, IsRun, DecidesEach, BookingsGrow}
use Rattle.ge_model_place.proofs.Earliest.{earliest_does, none_sooner, none_passes}
use Rattle.ge_model_place.proofs.Decided.{groups, order, one_more}

module _ (c : Cluster) (now : ℕ) where
  -- more decisions book behind those before
  pub bookings_grow : (before more : List Decision) → BookingsGrow c now before more
  bookings_grow before more =
      ap (λ bs. base_bookings c (expanded c) now ++ bs) (flat_map-append (booked_by c (expanded c) now) before more)
      ∙ sym (append_assoc (base_bookings c (expanded c) now) (flat_map (booked_by c (expanded c) now) before) (flat_map (booked_by c (expanded c) now) more))

  task_decided : (before : List Decision) (task : TaskId) (d : Decision) → IsDecided c now before task d → task_of d ≡ task
  task_decided before task (Start start) is = is.0
  task_decided before task (Reserve kept) is = is.0
  task_decided before task (Skip skipped) is = is.0

  tasks_decided : (before : List Decision) (tasks : List TaskId) (decisions : List Decision) → IsRunAfter c now before tasks decisions → DecidesEach tasks decisions
  tasks_decided before [] [] run = refl
  tasks_decided before [] (d ∷ decisions) run = absurd run
  tasks_decided before (task ∷ tasks) [] run = absurd run
  tasks_decided before (task ∷ tasks) (d ∷ decisions) run =
      let first = task_decided before task d run.0 in
      let rest = tasks_decided (before ++ d ∷ []) tasks decisions run.1 in
      cc

  -- each task is decided, once and in its turn
  pub decides_each : (tasks : List TaskId) (decisions : List Decision) → IsRun c tasks now decisions → DecidesEach tasks decisions
  unfolding IsRun
  decides_each tasks decisions run = tasks_decided [] tasks decisions run

  abbrev starting : TaskId → ℕ → List Grant → Starting
  starting t n g = record { task = t; serial = n; grants = g }

  abbrev keeping : TaskId → ℕ → List Grant → Reservation
  keeping t m g = record { task = t; at = m; grants = g }

  module _ (before : List Decision) (task : TaskId) where
    abbrev over : List Booking
    over = bookings_after c now before

    abbrev one_decision : Decision
    one_decision = decision_of c (groups c now) (order c now) now over before task

    abbrev placeable : ℕ → Bool
    placeable moment = is_some (placed_at c (groups c now) (order c now) now over task moment)

    -- where a task is not held back, the placement decides
    when_free : ((is_held_back c before (at_number c.jobs task.job) ≡ true) → ⊥) → (grants : Option (List Grant)) → placed_after c now before task now ≡ grants
        → one_decision ≡ decision_with c (groups c now) (order c now) now over before task grants
    when_free free grants is =
        cond-false _ _ _ (false_from_ne_true (is_held_back c before (at_number c.jobs task.job)) free) ∙ ap (λ g. decision_with c (groups c now) (order c now) now over before task g) is

    start_is_one : (start : Starting) → start.task ≡ task → IsStarted c now before task start.serial start.grants → Start start ≡ one_decision
    start_is_one start same is =
        let in_time : nat_lt last_serial (serial_after c before) ≡ false = le-ltb last_serial (serial_after c before) (omega (arith, is.in_range, is.next)) in
        let begun : Start start ≡ Start (starting task (serial_after c before) start.grants) = ap (λ t. Start (starting t start.serial start.grants)) same ∙ ap (λ n. Start (starting task n start.grants)) is.next in
        begun ∙ sym (cond-false _ _ _ in_time) ∙ sym (when_free is.can.free (Some start.grants) is.can.placed)

    -- the first moment is the one at which the reservation is
    first_is : (found : Option ℕ) (moment : ℕ) (grants : List Grant) → first_moment c (groups c now) (order c now) now over task ≡ found → IsReserved c now before task moment grants → found ≡ Some moment
    first_is None moment grants e is =
        absurd (true≢false (sym (ap is_some is.placed) ∙ none_passes placeable now over moment e is.end.later is.end.ever is.end.ends))
    first_is (Some m) moment grants e is =
        let does = earliest_does placeable now over m e in
        let not_later : m < moment → ⊥ = λ less. true≢false (sym does.1.passes ∙ ap is_some (is.first m less (record { later = does.1.later; ever = does.1.ever; ends = does.0 }))) in
        let not_sooner : moment < m → ⊥ = λ less. true≢false (sym (ap is_some is.placed) ∙ none_sooner placeable now over m moment e less is.end.later is.end.ever is.end.ends) in
        ap (λ n. Some n) (omega (arith, not_later, not_sooner))

    reserve_is_one : (kept : Reservation) → kept.task ≡ task → IsReserved c now before task kept.at kept.grants → Reserve kept ≡ one_decision
    reserve_is_one kept same is =
        let at_first = first_is (first_moment c (groups c now) (order c now) now over task) kept.at kept.grants refl is in
        ap (λ t. Reserve (keeping t kept.at kept.grants)) same
        ∙ sym (ap (λ g. reserve_at task kept.at g) is.placed)
        ∙ sym (ap (λ m. reserve_from c (groups c now) (order c now) now over task m) at_first)
        ∙ sym (cond-true _ _ _ is.may)
        ∙ sym (when_free is.waits.free None is.waits.full)

    no_moment : (found : Option ℕ) → first_moment c (groups c now) (order c now) now over task ≡ found → ((moment : ℕ) → IsEnd c now before moment → placed_after c now before task moment ≡ None) → found ≡ None
    no_moment None e none = refl
    no_moment (Some m) e none =
        let does = earliest_does placeable now over m e in
        absurd (true≢false (sym does.1.passes ∙ ap is_some (none m (record { later = does.1.later; ever = does.1.ever; ends = does.0 }))))

    later_is_skip : IsUnplaced c now before task → Skip task ≡ later_decision c (groups c now) (order c now) now over before task
    later_is_skip is =
        elim (cases_Bool (may_reserve c before (at_number c.jobs task.job))) [
          | inl may ↦
              sym (ap (λ m. reserve_from c (groups c now) (order c now) now over task m) (no_moment (first_moment c (groups c now) (order c now) now over task) refl (is.unreserved may)))
              ∙ sym (cond-true _ _ _ may)
          | inr not ↦ sym (cond-false _ _ _ not)
        ]

    skip_is_one : IsSkipped c now before task → Skip task ≡ one_decision
    skip_is_one (inl held) = sym (cond-true _ _ _ held)
    skip_is_one (inr (inl late)) = sym (cond-true _ _ _ (lt-ltb last_serial (serial_after c before) late.past)) ∙ sym (when_free late.can.free (Some late.grants) late.can.placed)
    skip_is_one (inr (inr unplaced)) = later_is_skip unplaced ∙ sym (when_free unplaced.waits.free None unplaced.waits.full)

    -- there is one decision that may come after those before
    decided_is_one : (d : Decision) → IsDecided c now before task d → d ≡ one_decision
    decided_is_one (Start start) is = start_is_one start is.0 is.1
    decided_is_one (Reserve kept) is = reserve_is_one kept is.0 is.1
    decided_is_one (Skip skipped) is = ap (λ t. Skip t) is.0 ∙ skip_is_one is.1

  decides_so : (so_far : List Booking) (before : List Decision) (tasks : List TaskId) (more : List Decision) → so_far ≡ bookings_after c now before → IsRunAfter c now before tasks more
      → (fold (decide c (groups c now) (order c now) now) (so_far, before) tasks).1 ≡ before ++ more
  decides_so so_far before [] [] is run = sym (append-nil before)
  decides_so so_far before [] (d ∷ more) is run = absurd run
  decides_so so_far before (task ∷ tasks) [] is run = absurd run
  decides_so so_far before (task ∷ tasks) (d ∷ more) is run =
      let e = decision_of c (groups c now) (order c now) now so_far before task in
      let same : e ≡ d = ap (λ b. decision_of c (groups c now) (order c now) now b before task) is ∙ sym (decided_is_one before task d run.0) in
      let rest = decides_so (so_far ++ booked_by c (groups c now) now e) (before ++ e ∷ []) tasks more (one_more c now so_far before e is) (subst (λ x. IsRunAfter c now (before ++ x ∷ []) tasks more) (sym same) run.1) in
      rest ∙ append_assoc before (e ∷ []) more ∙ ap (λ x. before ++ x ∷ more) same

  -- a run is the one of the function
  pub run_is_run_of : (tasks : List TaskId) (decisions : List Decision) → IsRun c tasks now decisions → decisions ≡ run_of c tasks now
  unfolding run_of IsRun
  run_is_run_of tasks decisions run = sym (decides_so (base_bookings c (groups c now) now) [] tasks decisions (sym (append-nil (base_bookings c (groups c now) now))) run)
