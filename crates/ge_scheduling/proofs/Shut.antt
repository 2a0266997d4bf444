-- Kinds of jobs without a PE of which no task can start: none can later in the run.
use Rattle.std.proofs.Common.{◌≡◌, ℕ, Bool, true, false, not, cond, List, [], ◌∷◌, ◌++◌, Option, Some, None, refl, sym, ap, ◌∙◌, arith}
use Rattle.std.specs.Prelude.{nat_lt, nat_le, ◌==◌}
use Rattle.std.specs.List.{list_any}
use Rattle.std.specs.Ordering.{nat_cmp}
use Rattle.std.specs.BTreeMap.{is_at}
use Rattle.std.specs.BTreeSet.{BTreeSet, contains}
use Rattle.std.proofs.lemmas.Bool.{true≢false, cond-true, and_parts, and_from, leb-true, le-leb, ltb-true, lt-ltb}
use Rattle.std.proofs.lemmas.List.Sums.{sum_by_push}
use Rattle.std.proofs.lemmas.Map.Lookups.{exact_unsigned}
use Rattle.std.proofs.lemmas.Map.Views.{tells_apart}
use Rattle.ge_collections.specs.Keyed.{at_number}
use Rattle.ge_job_index.specs.declared.short_row.ShortRow.{ShortRow}
use Rattle.ge_limits.specs.Limits.{last_serial}
use Rattle.ge_model_rows.specs.ClusterRows.{Cluster}
use Rattle.ge_model_rows.specs.DecisionRows.{Decision, Start, Reserve, Skip}
use Rattle.ge_model_rows.specs.HostRows.{Groups, InstanceId}
use Rattle.ge_model_rows.specs.JobRows.{Job, PeRequest, Grant}
use Rattle.ge_model_rows.specs.ScheduleRows.{Booking}
use Rattle.ge_model_rows.specs.TaskRows.{TaskId}
use Rattle.ge_model_place.specs.Placement.{placement_of}
use Rattle.ge_model_place.specs.Running.{is_start, serial_after, starts_for, running_of, owner_is_full, may_reserve, booked_by, start_with, decision_of}
use Rattle.ge_rows.specs.JobShort.{job_kind}
use Rattle.ge_rows.specs.declared.labels.JobFacts.{JobFacts}
use Rattle.ge_attempts.specs.KindNotes.{kind_in, TellKinds, noted_with, alone, kind_after, started_by, NoneStarts, AreShut}
use Rattle.ge_attempts.specs.Verdicts.{placed_with}
use Rattle.ge_scheduling.proofs.Bridged.{by_parts, model_by_parts}
use Rattle.ge_attempts.proofs.Grown.{never_placed}
use Rattle.ge_attempts.proofs.OneKind.{placed_alike}

-- by whether a task is held back and what number is next

start_skips : (serial : ℕ) (task other u : TaskId) (grants : List Grant) → start_with task serial grants ≡ Skip other → start_with u serial grants ≡ Skip u
start_skips serial task other u grants = here (nat_lt last_serial serial)
  where
    here : (late : Bool) → cond late (Skip task) (Start (record { task = task; serial = serial; grants = grants })) ≡ Skip other
        → cond late (Skip u) (Start (record { task = u; serial = serial; grants = grants })) ≡ Skip u
    here true e = refl
    here false e = absurd cc

is_late : (serial : ℕ) (task : TaskId) (grants : List Grant) → start_with task serial grants ≡ Skip task → nat_lt last_serial serial ≡ true
is_late serial task grants = here (nat_lt last_serial serial)
  where
    here : (late : Bool) → cond late (Skip task) (Start (record { task = task; serial = serial; grants = grants })) ≡ Skip task → late ≡ true
    here true e = refl
    here false e = absurd cc

when_late : (held : Bool) (serial : ℕ) (task : TaskId) (grants : List Grant) → nat_lt last_serial serial ≡ true → started_by held serial task (Some grants) ≡ Skip task
when_late true serial task grants late = refl
when_late false serial task grants late = cond-true _ _ _ late

when_held : (held : Bool) (serial : ℕ) (task : TaskId) (grants : List Grant) → held ≡ true → started_by held serial task (Some grants) ≡ Skip task
when_held held serial task grants is = cond-true _ _ _ is

module _ (c : Cluster) (groups : Groups) (order : List InstanceId) (now : ℕ) (booked : List Booking) where
  -- a task that waits can't start, and none of its job can
  cant_start : (held may : Bool) (serial : ℕ) (job : Option Job) (task other u : TaskId) (grants : Option (List Grant))
      → cond held (Skip task) (placed_with c groups order now booked may serial job task grants) ≡ Skip other → started_by held serial u grants ≡ Skip u
  cant_start held may serial job task other u None e = refl
  cant_start true may serial job task other u (Some grants) e = refl
  cant_start false may serial job task other u (Some grants) e = start_skips serial task other u grants e

  -- one that can't start and may not be reserved waits
  pub must_wait : (held : Bool) (serial : ℕ) (job : Option Job) (task : TaskId) (grants : Option (List Grant)) → started_by held serial task grants ≡ Skip task
      → cond held (Skip task) (placed_with c groups order now booked false serial job task grants) ≡ Skip task
  must_wait true serial job task None e = refl
  must_wait false serial job task None e = refl
  must_wait held serial job task (Some grants) e = e

-- more decisions: no fewer tasks of a user run, and no smaller number is next

module _ (c : Cluster) (decisions : List Decision) (d : Decision) where
  still_full : (owner : List ℕ) → owner_is_full c decisions owner ≡ true → owner_is_full c (decisions ++ d ∷ []) owner ≡ true
  still_full owner full =
      let parts = and_parts (not (c.sched.maxujobs == 0)) (nat_le c.sched.maxujobs (running_of c decisions owner)) full in
      let many = leb-true c.sched.maxujobs (running_of c decisions owner) parts.1 in
      let pushed = sum_by_push (λ x. cond (starts_for c owner x) 1 0) decisions d in
      and_from (not (c.sched.maxujobs == 0)) (nat_le c.sched.maxujobs (running_of c (decisions ++ d ∷ []) owner)) parts.0
      (le-leb c.sched.maxujobs (running_of c (decisions ++ d ∷ []) owner) (omega (arith, many, pushed)))

  still_late : nat_lt last_serial (serial_after c decisions) ≡ true → nat_lt last_serial (serial_after c (decisions ++ d ∷ [])) ≡ true
  still_late late =
      let past = ltb-true last_serial (serial_after c decisions) late in
      let pushed = sum_by_push (λ x. cond (is_start x) 1 0) decisions d in
      lt-ltb last_serial (serial_after c (decisions ++ d ∷ [])) (omega (arith, past, pushed))

module _ (c : Cluster) (groups : Groups) (order : List InstanceId) (now : ℕ) where
  -- none starts of a job of the same kind
  none_alike : (booked : List Booking) (decisions : List Decision) (a b : Job) → job_kind a ≡ job_kind b → NoneStarts c groups order now booked decisions a → NoneStarts c groups order now booked decisions b
  none_alike booked decisions a b same none task =
      sym (λ i. started_by (owner_is_full c decisions (same i).owner) (serial_after c decisions) task (placed_alike c groups order booked now a b same i)) ∙ none task

  -- a task that waits: none of its job starts
  none_starts : (booked : List Booking) (decisions : List Decision) (task skipped : TaskId) (job : Job) → at_number c.jobs task.job ≡ Some job
      → decision_of c groups order now booked decisions task ≡ Skip skipped → NoneStarts c groups order now booked decisions job
  none_starts booked decisions task skipped job there waits u =
      cant_start c groups order now booked (owner_is_full c decisions job.owner) (may_reserve c decisions (Some job)) (serial_after c decisions) (Some job) task skipped u (placement_of c groups order booked job now)
      (sym (model_by_parts c groups order now booked decisions task ∙ ap (λ j. by_parts c groups order now booked decisions j task) there) ∙ waits)

  -- none starts later
  none_later : (booked more : List Booking) (decisions : List Decision) (d : Decision) (job : Job) → job.request.pe ≡ None → NoneStarts c groups order now booked decisions job
      → NoneStarts c groups order now (booked ++ more) (decisions ++ d ∷ []) job
  none_later booked more decisions d job alone none task =
      here (placement_of c groups order booked job now) refl (placement_of c groups order (booked ++ more) job now) refl
    where
      held : Bool
      held = owner_is_full c decisions job.owner

      some : (grants others : List Grant) (h : Bool) → owner_is_full c decisions job.owner ≡ h → started_by h (serial_after c decisions) task (Some grants) ≡ Skip task
          → started_by (owner_is_full c (decisions ++ d ∷ []) job.owner) (serial_after c (decisions ++ d ∷ [])) task (Some others) ≡ Skip task
      some grants others true is e =
          when_held (owner_is_full c (decisions ++ d ∷ []) job.owner) (serial_after c (decisions ++ d ∷ [])) task others (still_full c decisions d job.owner is)
      some grants others false is e =
          when_late (owner_is_full c (decisions ++ d ∷ []) job.owner) (serial_after c (decisions ++ d ∷ [])) task others (still_late c decisions d (is_late (serial_after c decisions) task grants e))

      here : (found : Option (List Grant)) → placement_of c groups order booked job now ≡ found → (later : Option (List Grant)) → placement_of c groups order (booked ++ more) job now ≡ later
          → started_by (owner_is_full c (decisions ++ d ∷ []) job.owner) (serial_after c (decisions ++ d ∷ [])) task later ≡ Skip task
      here found is None then = refl
      here None is (Some others) then =
          let both : None ≡ Some others = sym (never_placed c groups order job now booked more alone is) ∙ then in
          absurd cc
      here (Some grants) is (Some others) then =
          some grants others (owner_is_full c decisions job.owner) refl
          (sym (ap (λ given. started_by (owner_is_full c decisions job.owner) (serial_after c decisions) task given) is) ∙ none task)

  -- what is noted stays so
  pub shut_later : (rows : List (ℕ × ShortRow JobFacts)) (booked more : List Booking) (decisions : List Decision) (d : Decision) (full : BTreeSet ℕ) → AreShut c groups order now booked decisions rows full
      → AreShut c groups order now (booked ++ more) (decisions ++ d ∷ []) rows full
  shut_later rows booked more decisions d full shut kind noted number job there of_it =
      let was = shut kind noted number job there of_it in
      (was.0, none_later booked more decisions d job was.0 was.1)

  -- nothing is noted yet
  pub none_shut : (rows : List (ℕ × ShortRow JobFacts)) (booked : List Booking) (decisions : List Decision) (full : BTreeSet ℕ) → full.keys ≡ [] → AreShut c groups order now booked decisions rows full
  none_shut rows booked decisions full none kind noted = absurd (true≢false (sym noted ∙ ap (λ (keys : List ℕ). list_any (is_at (nat_cmp kind)) keys) none))

  -- what was noted: the kind of a job without a PE, of which a task waits

  abbrev Noted : Decision → Option Job → Option ℕ → ℕ → Type 0
  Noted made job kind own = (skipped : TaskId) × (first : Job) × (made ≡ Skip skipped) × (job ≡ Some first) × (first.request.pe ≡ None) × (kind ≡ Some own)

  kind_noted : (made : Decision) (job : Option Job) (kind : Option ℕ) (own : ℕ) → kind_after made job kind ≡ Some own → Noted made job kind own
  kind_noted (Start start) job kind own e = absurd cc
  kind_noted (Reserve kept) job kind own e = absurd cc
  kind_noted (Skip skipped) None kind own e = absurd cc
  kind_noted (Skip skipped) (Some first) kind own e = here first.request.pe refl e
    where
      here : (pe : Option PeRequest) → first.request.pe ≡ pe → alone pe kind ≡ Some own → Noted (Skip skipped) (Some first) kind own
      here None is named = (skipped, first, refl, refl, is, named)
      here (Some pe) is named = absurd cc

  module _ (rows : List (ℕ × ShortRow JobFacts)) (told : TellKinds c.jobs rows) (booked : List Booking) (decisions : List Decision) (full next : BTreeSet ℕ) (task : TaskId) (made : Decision)
      (were : AreShut c groups order now booked decisions rows full) (is : made ≡ decision_of c groups order now booked decisions task)
      (notes : (other : ℕ) → contains nat_cmp next other ≡ noted_with full (kind_after made (at_number c.jobs task.job) (kind_in rows task.job)) other) where
    -- the kind of the task's job
    this_one : (kind : ℕ) → kind_after made (at_number c.jobs task.job) (kind_in rows task.job) ≡ Some kind → (number : ℕ) (job : Job) → at_number c.jobs number ≡ Some job → kind_in rows number ≡ Some kind
        → (job.request.pe ≡ None) × NoneStarts c groups order now booked decisions job
    this_one kind e number job there of_it =
        let noted = kind_noted made (at_number c.jobs task.job) (kind_in rows task.job) kind e in
        let first : Job = noted.1 in
        let same : job_kind first ≡ job_kind job = told.alike task.job number kind first job noted.3 there noted.5 of_it in (
          sym (ap (λ k. k.request.pe) same) ∙ noted.4,
          none_alike booked decisions first job same (none_starts booked decisions task noted.0 first noted.3 (sym is ∙ noted.2)),
        )

    here_shut : AreShut c groups order now booked decisions rows next
    here_shut kind noted = by (kind_after made (at_number c.jobs task.job) (kind_in rows task.job)) refl (sym (notes kind) ∙ noted)
      where
        one : (own : ℕ) → kind_after made (at_number c.jobs task.job) (kind_in rows task.job) ≡ Some own → (same : Bool) → is_at (nat_cmp own) kind ≡ same → cond same true (contains nat_cmp full kind) ≡ true
            → (number : ℕ) (job : Job) → at_number c.jobs number ≡ Some job → kind_in rows number ≡ Some kind → (job.request.pe ≡ None) × NoneStarts c groups order now booked decisions job
        one own named true same e = this_one kind (named ∙ ap (λ k. Some k) (tells_apart exact_unsigned own kind same))
        one own named false same e = were kind e

        by : (own : Option ℕ) → kind_after made (at_number c.jobs task.job) (kind_in rows task.job) ≡ own → noted_with full own kind ≡ true
            → (number : ℕ) (job : Job) → at_number c.jobs number ≡ Some job → kind_in rows number ≡ Some kind → (job.request.pe ≡ None) × NoneStarts c groups order now booked decisions job
        by None named e = were kind e
        by (Some own) named e = one own named (is_at (nat_cmp own) kind) refl e

    -- after a decision
    pub shut_after : AreShut c groups order now (booked ++ booked_by c groups now made) (decisions ++ made ∷ []) rows next
    shut_after = shut_later rows booked (booked_by c groups now made) decisions made next here_shut
