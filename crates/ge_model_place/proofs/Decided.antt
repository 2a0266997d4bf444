-- The function on lists gives a run, and what it books on the way is what its decisions book.
use Rattle.std.proofs.Common.{◌≡◌, ℕ, inl, inr, true, false, Bool, List, [], ◌∷◌, ◌++◌, fold, flat_map, Option, Some, None, is_some, refl, sym, subst, ap, ◌∙◌, append_assoc}
use Rattle.std.specs.Prelude.{nat_lt}
use Rattle.std.proofs.lemmas.Bool.{cond_both, true≢false, ltb-true, ltb-false}
use Rattle.std.proofs.lemmas.List.{append-nil}
use Rattle.std.proofs.lemmas.List.Concat.{flat_map-append}
use Rattle.ge_collections.specs.Keyed.{at_number}
use Rattle.ge_model_rows.specs.Groups.{expanded}
use Rattle.ge_model_rows.specs.ClusterRows.{Cluster}
use Rattle.ge_model_rows.specs.DecisionRows.{Decision, Start, Skip}
use Rattle.ge_model_rows.specs.HostRows.{Groups, InstanceId}
use Rattle.ge_model_rows.specs.JobRows.{Grant}
use Rattle.ge_model_rows.specs.ScheduleRows.{Booking}
use Rattle.ge_model_rows.specs.TaskRows.{TaskId}
use Rattle.ge_model_place.specs.InstanceOrder.{instance_order}
use Rattle.ge_model_place.specs.Windows.{base_bookings}
use Rattle.ge_model_place.specs.Running.{serial_after, is_held_back, may_reserve, booked_by, reserve_at, placed_at, first_moment, reserve_from, later_decision, decision_with, decision_of, decide, decided, run_of}
use Rattle.ge_limits.specs.Limits.{last_serial}
use Rattle.ge_model_place.specs.Runs.{bookings_after, placed_after, MustWait, IsDecided, IsRunAfter, IsRun}
use Rattle.ge_model_place.proofs.Earliest.{earliest_does, none_sooner, none_passes}

-- nothing is there where the test says so
none_there : {X : Type 0} (found : Option X) → is_some found ≡ false → found ≡ None
none_there None e = refl
none_there (Some x) e = absurd (true≢false e)

module _ (c : Cluster) (now : ℕ) where
  abbrev pub groups : Groups
  groups = expanded c

  abbrev pub order : List InstanceId
  order = instance_order c (expanded c)

  -- one more decision adds its booking behind those before
  pub one_more : (booked : List Booking) (before : List Decision) (d : Decision) → booked ≡ bookings_after c now before → booked ++ booked_by c groups now d ≡ bookings_after c now (before ++ d ∷ [])
  one_more booked before d is =
      ap (λ b. b ++ booked_by c groups now d) is ∙ append_assoc (base_bookings c groups now) (flat_map (booked_by c groups now) before) (booked_by c groups now d)
      ∙ ap (λ b. base_bookings c groups now ++ b) (ap (λ b. flat_map (booked_by c groups now) before ++ b) (sym (append-nil (booked_by c groups now d))) ∙ sym (flat_map-append (booked_by c groups now) before (d ∷ [])))

  -- the decision on a task that is not held back and can't start
  module _ (before : List Decision) (task : TaskId) (waits : MustWait c now before task) where
    abbrev booked : List Booking
    booked = bookings_after c now before

    abbrev placeable : ℕ → Bool
    placeable moment = is_some (placed_at c groups order now booked task moment)

    not_sooner : (may : may_reserve c before (at_number c.jobs task.job) ≡ true) (moment : ℕ) (grants : Option (List Grant)) → first_moment c groups order now booked task ≡ Some moment
        → placed_after c now before task moment ≡ grants → IsDecided c now before task (reserve_at task moment grants)
    not_sooner may moment None e is = absurd (true≢false (sym (earliest_does placeable now booked moment e).1.passes ∙ ap is_some is))
    not_sooner may moment (Some grants) e is =
        let found = earliest_does placeable now booked moment e in (
          refl,
          record {
            waits = waits;
            may = may;
            end = record { later = found.1.later; ever = found.1.ever; ends = found.0 };
            placed = is;
            first = λ sooner less end. none_there (placed_after c now before task sooner) (none_sooner placeable now booked moment sooner e less end.later end.ever end.ends);
          },
        )

    reserved : (may : may_reserve c before (at_number c.jobs task.job) ≡ true) (found : Option ℕ) → first_moment c groups order now booked task ≡ found
        → IsDecided c now before task (reserve_from c groups order now booked task found)
    reserved may None e = (
      refl,
      inr (inr (record {
        waits = waits;
        unreserved = λ _ moment end. none_there (placed_after c now before task moment) (none_passes placeable now booked moment e end.later end.ever end.ends);
      })),
    )
    reserved may (Some moment) e = not_sooner may moment (placed_after c now before task moment) e refl

    later_is_decided : IsDecided c now before task (later_decision c groups order now booked before task)
    later_is_decided =
        cond_both (may_reserve c before (at_number c.jobs task.job)) (reserve_from c groups order now booked task (first_moment c groups order now booked task)) (Skip task) (λ d. IsDecided c now before task d)
        (λ may. reserved may (first_moment c groups order now booked task) refl)
        (λ not. (refl, inr (inr (record { waits = waits; unreserved = λ may. absurd (true≢false (sym may ∙ not)) }))))

  -- the decision on a task that is not held back
  free_is_decided : (before : List Decision) (task : TaskId) → is_held_back c before (at_number c.jobs task.job) ≡ false → (grants : Option (List Grant)) → placed_after c now before task now ≡ grants
      → IsDecided c now before task (decision_with c groups order now (bookings_after c now before) before task grants)
  free_is_decided before task free None is = later_is_decided before task (record { free = λ held. true≢false (sym held ∙ free); full = is })
  free_is_decided before task free (Some grants) is =
      cond_both (nat_lt last_serial (serial_after c before)) (Skip task) (Start (record { task = task; serial = serial_after c before; grants = grants })) (λ d. IsDecided c now before task d)
      (λ e. (refl, inr (inl (record { grants = grants; can = record { free = λ held. true≢false (sym held ∙ free); placed = is }; past = ltb-true last_serial (serial_after c before) e }))))
      (λ e. (refl, record { can = record { free = λ held. true≢false (sym held ∙ free); placed = is }; next = refl; in_range = ltb-false last_serial (serial_after c before) e }))

  -- the decision that is computed may come after those before
  is_decided : (before : List Decision) (task : TaskId) → IsDecided c now before task (decision_of c groups order now (bookings_after c now before) before task)
  is_decided before task =
      cond_both (is_held_back c before (at_number c.jobs task.job)) (Skip task) (decision_with c groups order now (bookings_after c now before) before task (placed_after c now before task now)) (λ d. IsDecided c now before task d)
      (λ held. (refl, inl held))
      (λ free. free_is_decided before task free (placed_after c now before task now) refl)

  -- what is decided from here on
  abbrev DecidesMore : List Booking → List Decision → List TaskId → Type 0
  DecidesMore booked before tasks = (more : List Decision) × ((fold (decide c groups order now) (booked, before) tasks).1 ≡ before ++ more) × IsRunAfter c now before tasks more

  decides_more : (so_far : List Booking) (before : List Decision) (tasks : List TaskId) → so_far ≡ bookings_after c now before → DecidesMore so_far before tasks
  decides_more so_far before [] is = ([], sym (append-nil before), tt)
  decides_more so_far before (task ∷ tasks) is =
      let d = decision_of c groups order now so_far before task in
      let rest = decides_more (so_far ++ booked_by c groups now d) (before ++ d ∷ []) tasks (one_more so_far before d is) in
      let first : IsDecided c now before task d = subst (λ b. IsDecided c now before task (decision_of c groups order now b before task)) (sym is) (is_decided before task) in
      (d ∷ rest.0, rest.1 ∙ append_assoc before (d ∷ []) rest.0, (first, rest.2))

  -- the function on lists gives a run
  pub run_of_is_run : (tasks : List TaskId) → IsRun c tasks now (run_of c tasks now)
  unfolding run_of IsRun
  run_of_is_run tasks =
      let all = decides_more (base_bookings c groups now) [] tasks (sym (append-nil (base_bookings c groups now))) in
      subst (λ ds. IsRunAfter c now [] tasks ds) (sym all.1) all.2

  -- what is booked on the way is what the decisions book
  books_them : (so_far : List Booking) (before : List Decision) (tasks : List TaskId) → so_far ≡ bookings_after c now before
      → (fold (decide c groups order now) (so_far, before) tasks).0 ≡ bookings_after c now (fold (decide c groups order now) (so_far, before) tasks).1
  books_them so_far before [] is = is
  books_them so_far before (task ∷ tasks) is =
      let d = decision_of c groups order now so_far before task in
      books_them (so_far ++ booked_by c groups now d) (before ++ d ∷ []) tasks (one_more so_far before d is)

  pub run_books : (tasks : List TaskId) → (decided c groups order now tasks).0 ≡ bookings_after c now (run_of c tasks now)
  unfolding run_of
  run_books tasks = books_them (base_bookings c groups now) [] tasks (sym (append-nil (base_bookings c groups now)))
