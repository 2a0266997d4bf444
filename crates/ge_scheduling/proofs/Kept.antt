-- One more task is decided, and a job whose tasks wait is kept.
use Rattle.std.proofs.Common.{◌≤◌, ◌==◌, ◌&&◌, ◌≡◌, ℕ, Bool, true, false, cond, List, [], ◌∷◌, ◌++◌, Option, Some, None, IfSome, refl, sym, subst, ap, ◌∙◌}
use Rattle.std.specs.Prelude.{nat_lt}
use Rattle.std.specs.Ordering.{nat_cmp}
use Rattle.std.specs.BTreeSet.{BTreeSet, contains}
use Rattle.std.proofs.lemmas.Bool.{true≢false, and_right, le-ltb}
use Rattle.std.proofs.lemmas.List.{append-nil}
use Rattle.ge_collections.specs.Keyed.{at_number}
use Rattle.ge_limits.specs.Limits.{last_serial}
use Rattle.ge_model_rows.specs.ClusterRows.{Cluster}
use Rattle.ge_model_rows.specs.DecisionRows.{Decision, Start, Reserve, Skip}
use Rattle.ge_model_rows.specs.HostRows.{Groups, InstanceId}
use Rattle.ge_model_rows.specs.JobRows.{Job, Grant}
use Rattle.ge_model_rows.specs.ScheduleRows.{Booking}
use Rattle.ge_model_rows.specs.TaskRows.{TaskId}
use Rattle.ge_model_place.specs.Placement.{placement_of}
use Rattle.ge_model_place.specs.Running.{owner_is_full, serial_after, may_reserve, earliest_end, booked_by, start_with, reserve_at, decision_of, decide}
use Rattle.ge_attempts.specs.declared.counting.Tally.{Tally}
use Rattle.ge_attempts.specs.Counts.{is_over, may_be_reserved, IsTallied}
use Rattle.ge_job_index.specs.declared.short_row.ShortRow.{ShortRow}
use Rattle.ge_rows.specs.declared.labels.JobFacts.{JobFacts}
use Rattle.ge_attempts.specs.KindNotes.{kind_in, is_noted, noted_with, kind_after, started_by, NoneStarts, AreShut}
use Rattle.ge_scheduling.specs.Passing.{passed_by, Waits, Follows}
use Rattle.ge_attempts.specs.declared.rests.Room.{Room}
use Rattle.ge_attempts.specs.Amounts.{IsInTable}
use Rattle.ge_attempts.specs.Rests.{AreLeft}
use Rattle.ge_attempts.specs.Verdicts.{grants_at, can_be_placed, reserved_from, reserved, waiting, placed_with, decision_by, decision_at}
use Rattle.ge_scheduling.proofs.Bridged.{by_parts, model_by_parts, may_same, decision_tallied}
use Rattle.ge_scheduling.proofs.Shut.{must_wait, shut_later, shut_after}
use Rattle.ge_attempts.proofs.Tallies.{tallied_skip}

-- a decision, of another task
for_task : TaskId → Decision → Decision
for_task task (Start start) = Start (record { task = task; serial = start.serial; grants = start.grants })
for_task task (Reserve kept) = Reserve (record { task = task; at = kept.at; grants = kept.grants })
for_task task (Skip other) = Skip task

either_moves : (u : TaskId) (b : Bool) (x y mine other : Decision) → mine ≡ for_task u x → other ≡ for_task u y → cond b mine other ≡ for_task u (cond b x y)
either_moves u true x y mine other first second = first
either_moves u false x y mine other first second = second

module _ (c : Cluster) (groups : Groups) (order : List InstanceId) (now : ℕ) (task u : TaskId) where
  start_moves : (serial : ℕ) (grants : List Grant) → start_with u serial grants ≡ for_task u (start_with task serial grants)
  unfolding for_task
  start_moves serial grants =
      either_moves u (nat_lt last_serial serial) (Skip task) (Start (record { task = task; serial = serial; grants = grants })) (Skip u) (Start (record { task = u; serial = serial; grants = grants })) refl refl

  reserve_moves : (moment : ℕ) (grants : Option (List Grant)) → reserve_at u moment grants ≡ for_task u (reserve_at task moment grants)
  unfolding for_task
  reserve_moves moment None = refl
  reserve_moves moment (Some grants) = refl

  found_moves : (booked : List Booking) (job : Option Job) (found : Option ℕ) → reserved_from c groups order now booked job u found ≡ for_task u (reserved_from c groups order now booked job task found)
  unfolding for_task
  found_moves booked job None = refl
  found_moves booked job (Some moment) = reserve_moves moment (grants_at c groups order now booked job moment)

  waiting_moves : (booked : List Booking) (may : Bool) (job : Option Job) → waiting c groups order now booked may job u ≡ for_task u (waiting c groups order now booked may job task)
  unfolding for_task
  waiting_moves booked may job =
      either_moves u may (reserved c groups order now booked job task) (Skip task) (reserved c groups order now booked job u) (Skip u)
      (found_moves booked job (earliest_end (can_be_placed c groups order now booked job) now booked)) refl

  placed_moves : (booked : List Booking) (may : Bool) (serial : ℕ) (job : Option Job) (grants : Option (List Grant))
      → placed_with c groups order now booked may serial job u grants ≡ for_task u (placed_with c groups order now booked may serial job task grants)
  placed_moves booked may serial job None = waiting_moves booked may job
  placed_moves booked may serial job (Some grants) = start_moves serial grants

  by_moves : (booked : List Booking) (held may : Bool) (serial : ℕ) (job : Option Job)
      → decision_by c groups order now booked held may serial job u ≡ for_task u (decision_by c groups order now booked held may serial job task)
  unfolding for_task
  by_moves booked held may serial job =
      either_moves u held (Skip task) (placed_with c groups order now booked may serial job task (grants_at c groups order now booked job now)) (Skip u)
      (placed_with c groups order now booked may serial job u (grants_at c groups order now booked job now)) refl
      (placed_moves booked may serial job (grants_at c groups order now booked job now))

  -- tasks of one job have one decision
  at_moves : (booked : List Booking) (tally : Tally) (job : Option Job) → decision_at c groups order now booked tally job u ≡ for_task u (decision_at c groups order now booked tally job task)
  unfolding for_task
  at_moves booked tally None = refl
  at_moves booked tally (Some job) = by_moves booked (is_over c.sched tally job.owner) (may_be_reserved c.sched tally job) tally.serial (Some job)

module _ (c : Cluster) (groups : Groups) (order : List InstanceId) (now : ℕ) where
  -- where a task waits, all of its job do
  pub all_wait : (booked : List Booking) (decisions : List Decision) (tally : Tally) (task skipped : TaskId) → IsTallied c decisions tally
      → decision_of c groups order now booked decisions task ≡ Skip skipped → Waits c groups order now booked (decisions ++ Skip skipped ∷ []) task.job
  unfolding for_task
  all_wait booked decisions tally task skipped is waits u same =
      sym (decision_tallied c groups order now booked (decisions ++ Skip skipped ∷ []) tally (tallied_skip c decisions skipped tally is) u)
      ∙ ap (λ number. decision_at c groups order now booked tally (at_number c.jobs number) u) same
      ∙ at_moves c groups order now task u booked tally (at_number c.jobs task.job)
      ∙ ap (λ d. for_task u d) (decision_tallied c groups order now booked decisions tally is task ∙ waits)

  -- what a task is decided, booked and decided so far
  pub weighed_decides : (booked more : List Booking) (decisions longer : List Decision) (task : TaskId) (made : Decision) → made ≡ decision_of c groups order now booked decisions task
      → more ≡ booked ++ booked_by c groups now made → longer ≡ decisions ++ made ∷ [] → (more, longer) ≡ decide c groups order now (booked, decisions) task
  weighed_decides booked more decisions longer task made is books pushes =
      let first : more ≡ booked ++ booked_by c groups now (decision_of c groups order now booked decisions task) = books ∙ ap (λ d. booked ++ booked_by c groups now d) is in
      let second : longer ≡ decisions ++ decision_of c groups order now booked decisions task ∷ [] = pushes ∙ ap (λ d. decisions ++ d ∷ []) is in
      λ i. (first i, second i)

  waits_if_passed : (booked : List Booking) (decisions : List Decision) (tally : Tally) (task : TaskId) (made : Decision) → IsTallied c decisions tally
      → made ≡ decision_of c groups order now booked decisions task
      → IfSome (passed_by task.job made) (Waits c groups order now (booked ++ booked_by c groups now made) (decisions ++ made ∷ []))
  waits_if_passed booked decisions tally task (Start start) is made = tt
  waits_if_passed booked decisions tally task (Reserve kept) is made = tt
  waits_if_passed booked decisions tally task (Skip skipped) is made =
      subst (λ bs. Waits c groups order now bs (decisions ++ Skip skipped ∷ []) task.job) (sym (append-nil booked)) (all_wait booked decisions tally task skipped is (sym made))

  -- a job of a noted kind of which no task may be reserved
  pub job_waits : (rows : List (ℕ × ShortRow JobFacts)) (booked : List Booking) (decisions : List Decision) (tally : Tally) (full : BTreeSet ℕ) (number : ℕ) (job : Job)
      → IsTallied c decisions tally → AreShut c groups order now booked decisions rows full → at_number c.jobs number ≡ Some job → is_noted full (kind_in rows number) ≡ true
      → may_be_reserved c.sched tally job ≡ false → Waits c groups order now booked decisions number
  job_waits rows booked decisions tally full number job tallied shut there noted may task same =
      model_by_parts c groups order now booked decisions task
      ∙ ap (λ n. by_parts c groups order now booked decisions (at_number c.jobs n) task) same
      ∙ ap (λ j. by_parts c groups order now booked decisions j task) there
      ∙ ap (λ m. decision_by c groups order now booked (owner_is_full c decisions job.owner) m (serial_after c decisions) (Some job) task) (sym (may_same c decisions tally tallied job) ∙ may)
      ∙ must_wait c groups order now booked (owner_is_full c decisions job.owner) (serial_after c decisions) (Some job) task (placement_of c groups order booked job now)
      (here (kind_in rows number) refl noted task)
    where
      here : (kind : Option ℕ) → kind_in rows number ≡ kind → is_noted full kind ≡ true → NoneStarts c groups order now booked decisions job
      here None is e = absurd (true≢false (sym e))
      here (Some kind) is e = (shut kind e number job there is).1

  -- a job that can't be placed now, of which no task may be reserved
  pub none_may_start : (booked : List Booking) (decisions : List Decision) (tally : Tally) (number : ℕ) (job : Job) → IsTallied c decisions tally → at_number c.jobs number ≡ Some job
      → placement_of c groups order booked job now ≡ None → may_be_reserved c.sched tally job ≡ false → Waits c groups order now booked decisions number
  none_may_start booked decisions tally number job tallied there nowhere may task same =
      model_by_parts c groups order now booked decisions task
      ∙ ap (λ n. by_parts c groups order now booked decisions (at_number c.jobs n) task) same
      ∙ ap (λ j. by_parts c groups order now booked decisions j task) there
      ∙ ap (λ m. decision_by c groups order now booked (owner_is_full c decisions job.owner) m (serial_after c decisions) (Some job) task) (sym (may_same c decisions tally tallied job) ∙ may)
      ∙ must_wait c groups order now booked (owner_is_full c decisions job.owner) (serial_after c decisions) (Some job) task (placement_of c groups order booked job now)
      (ap (λ given. started_by (owner_is_full c decisions job.owner) (serial_after c decisions) task given) nowhere)

  -- where nothing can be placed now and no task may be reserved
  pub must_each_wait : (booked : List Booking) (decisions : List Decision) → ((job : Job) → IsInTable c job → placement_of c groups order booked job now ≡ None)
      → ((number : ℕ) (job : Job) → at_number c.jobs number ≡ Some job → may_reserve c decisions (Some job) ≡ false) → (task : TaskId) → decision_of c groups order now booked decisions task ≡ Skip task
  must_each_wait booked decisions nowhere unreserved task =
      model_by_parts c groups order now booked decisions task ∙ here (at_number c.jobs task.job) refl
    where
      here : (job : Option Job) → at_number c.jobs task.job ≡ job → by_parts c groups order now booked decisions job task ≡ Skip task
      here None there = refl
      here (Some job) there =
          ap (λ m. decision_by c groups order now booked (owner_is_full c decisions job.owner) m (serial_after c decisions) (Some job) task) (unreserved task.job job there)
          ∙ must_wait c groups order now booked (owner_is_full c decisions job.owner) (serial_after c decisions) (Some job) task (placement_of c groups order booked job now)
          (ap (λ given. started_by (owner_is_full c decisions job.owner) (serial_after c decisions) task given) (nowhere job (record { number = task.job; there = there })))

  -- where as many are reserved as may be, by what is counted
  pub all_must_wait : (booked : List Booking) (decisions : List Decision) (tally : Tally) (number : ℕ) → IsTallied c decisions tally → ((job : Job) → IsInTable c job → placement_of c groups order booked job now ≡ None)
      → c.sched.max_reservation ≤ tally.reserved → Waits c groups order now booked decisions number
  all_must_wait booked decisions tally number tallied nowhere enough task same =
      must_each_wait booked decisions nowhere
      (λ n job there.
      sym (may_same c decisions tally tallied job)
      ∙ and_right (job.reserve && job.advance == 0) (nat_lt tally.reserved c.sched.max_reservation) (le-ltb tally.reserved c.sched.max_reservation enough)) task

  -- the tasks of a job wait, as they do where it isn't there
  pub each_waits : (booked : List Booking) (decisions : List Decision) (tally : Tally) (number : ℕ) → IsTallied c decisions tally
      → ((job : Job) → at_number c.jobs number ≡ Some job → Waits c groups order now booked decisions number) → Waits c groups order now booked decisions number
  each_waits booked decisions tally number tallied there = here (at_number c.jobs number) refl
    where
      here : (found : Option Job) → at_number c.jobs number ≡ found → Waits c groups order now booked decisions number
      here (Some job) is = there job is
      here None is = λ task same.
          sym (decision_tallied c groups order now booked decisions tally tallied task)
          ∙ ap (λ n. decision_at c groups order now booked tally (at_number c.jobs n) task) same
          ∙ ap (λ job. decision_at c groups order now booked tally job task) is

  -- a job whose tasks wait, after one more that does
  waits_still : (booked : List Booking) (decisions : List Decision) (tally : Tally) (skipped : TaskId) (passed : Option ℕ) → IsTallied c decisions tally
      → IfSome passed (Waits c groups order now booked decisions) → IfSome passed (Waits c groups order now booked (decisions ++ Skip skipped ∷ []))
  waits_still booked decisions tally skipped None is waits = tt
  waits_still booked decisions tally skipped (Some number) is waits = λ u same.
      sym (decision_tallied c groups order now booked (decisions ++ Skip skipped ∷ []) tally (tallied_skip c decisions skipped tally is) u)
      ∙ decision_tallied c groups order now booked decisions tally is u ∙ waits u same

  pub weighed_follows : (rows : List (ℕ × ShortRow JobFacts)) (booked more : List Booking) (decisions longer : List Decision) (tally next : Tally) (passed noted : Option ℕ) (full now_full : BTreeSet ℕ) (room less : Room) (task : TaskId) (made : Decision)
      → Follows c groups order now rows booked decisions tally noted full room
      → made ≡ decision_of c groups order now booked decisions task → more ≡ booked ++ booked_by c groups now made → longer ≡ decisions ++ made ∷ []
      → IsTallied c (decisions ++ made ∷ []) next → passed ≡ passed_by task.job made
      → ((other : ℕ) → contains nat_cmp now_full other ≡ noted_with full (kind_after made (at_number c.jobs task.job) (kind_in rows task.job)) other)
      → AreLeft c groups now more order less → Follows c groups order now rows more longer next passed now_full less
  weighed_follows rows booked more decisions longer tally next passed noted full now_full room less task made follows made_is books pushes counted passes notes are =
      record {
        told = follows.told;
        tallied = subst (λ ds. IsTallied c ds next) (sym pushes) counted;
        waits = subst (λ p. IfSome p (Waits c groups order now more longer)) (sym passes)
            (subst (λ bs. IfSome (passed_by task.job made) (Waits c groups order now bs longer)) (sym books)
            (subst (λ ds. IfSome (passed_by task.job made) (Waits c groups order now (booked ++ booked_by c groups now made) ds)) (sym pushes)
            (waits_if_passed booked decisions tally task made follows.tallied made_is)));
        shut = subst (λ bs. AreShut c groups order now bs longer rows now_full) (sym books)
            (subst (λ ds. AreShut c groups order now (booked ++ booked_by c groups now made) ds rows now_full) (sym pushes)
            (shut_after c groups order now rows follows.told booked decisions full now_full task made follows.shut made_is notes));
        left = are;
      }

  module _ (rows : List (ℕ × ShortRow JobFacts)) (booked : List Booking) (decisions longer : List Decision) (tally : Tally) (passed : Option ℕ) (full : BTreeSet ℕ) (room : Room) (task : TaskId)
      (follows : Follows c groups order now rows booked decisions tally passed full room) (waits : Waits c groups order now booked decisions task.job) (pushes : longer ≡ decisions ++ Skip task ∷ []) where
    -- a task of a job whose tasks wait
    pub passed_decides : (booked, longer) ≡ decide c groups order now (booked, decisions) task
    passed_decides = weighed_decides booked booked decisions longer task (Skip task) (sym (waits task refl)) (sym (append-nil booked)) pushes

    pub passed_follows : Follows c groups order now rows booked longer tally passed full room
    passed_follows =
        record {
          told = follows.told;
          tallied = subst (λ ds. IsTallied c ds tally) (sym pushes) (tallied_skip c decisions task tally follows.tallied);
          waits = subst (λ ds. IfSome passed (Waits c groups order now booked ds)) (sym pushes) (waits_still booked decisions tally task passed follows.tallied follows.waits);
          shut = subst (λ ds. AreShut c groups order now booked ds rows full) (sym pushes)
              (subst (λ bs. AreShut c groups order now bs (decisions ++ Skip task ∷ []) rows full) (append-nil booked) (shut_later c groups order now rows booked [] decisions (Skip task) full follows.shut));
          left = follows.left;
        }
