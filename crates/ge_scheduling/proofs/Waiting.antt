-- Where nothing can be placed and no task may have slots kept, each task waits, in whatever order the tasks are.
use Rattle.std.proofs.Common.{◌==◌, ◌&&◌, ◌≡◌, ◌≤◌, ℕ, inl, inr, Bool, true, false, cond, List, [], ◌∷◌, ◌++◌, fold, map, None, Some, refl, sym, ap, ◌∙◌, append_assoc, arith}
use Rattle.std.specs.Prelude.{nat_lt, count_by}
use Rattle.std.specs.List.{list_any}
use Rattle.std.specs.BTreeMap.{is_at}
use Rattle.std.specs.Ordering.{nat_cmp}
use Rattle.std.proofs.lemmas.Bool.{and_right, and_cases, or_parts, ltb-false, le-ltb}
use Rattle.std.proofs.lemmas.List.{append-nil}
use Rattle.std.proofs.lemmas.List.Sums.{sum_by_push}
use Rattle.ge_collections.specs.Keyed.{at_number}
use Rattle.ge_model_rows.specs.ClusterRows.{Cluster}
use Rattle.ge_model_rows.specs.DecisionRows.{Decision, Skip}
use Rattle.ge_model_rows.specs.HostRows.{Groups, InstanceId}
use Rattle.ge_model_rows.specs.JobRows.{Job}
use Rattle.ge_model_rows.specs.ScheduleRows.{Booking}
use Rattle.ge_model_rows.specs.TaskRows.{TaskId}
use Rattle.ge_model_place.specs.InstanceOrder.{instance_order}
use Rattle.ge_model_place.specs.Placement.{placement_of}
use Rattle.ge_model_place.specs.Running.{is_reserve, may_reserve, decide, run_of}
use Rattle.ge_model_place.specs.Windows.{base_bookings}
use Rattle.ge_scheduling.specs.declared.basis.Basis.{Basis}
use Rattle.ge_attempts.specs.Amounts.{IsInTable}
use Rattle.ge_scheduling.specs.Bases.{asks_to_keep, may_keep, IsBasis, AllWait}
use Rattle.ge_scheduling.proofs.Kept.{must_each_wait, weighed_decides}
use Rattle.ge_attempts.proofs.LeftOut.{nothing_placed, none_vacant}

-- no job of a table asks for slots to be kept
none_asks : (rows : List (ℕ × Job)) → list_any asks_to_keep rows ≡ false → (number : ℕ) (job : Job) → at_number rows number ≡ Some job → job.reserve ≡ false
none_asks [] none number job there = absurd cc
none_asks (row ∷ rows) none number job there =
    here (is_at (nat_cmp number) row.0) there (none_asks rows (or_parts row.1.reserve (list_any asks_to_keep rows) none).1 number job)
  where
    here : (same : Bool) → cond same (Some row.1) (at_number rows number) ≡ Some job → (at_number rows number ≡ Some job → job.reserve ≡ false) → job.reserve ≡ false
    here true is others = let own : row.1 ≡ job = cc in sym (ap (λ j. j.reserve) own) ∙ (or_parts row.1.reserve (list_any asks_to_keep rows) none).0
    here false is others = others is

module _ (c : Cluster) (reserved : ℕ) (none : may_keep c reserved ≡ false) where
  -- no task may have slots kept where so many have some
  none_kept : (decisions : List Decision) → reserved ≤ count_by is_reserve decisions → (number : ℕ) (job : Job) → at_number c.jobs number ≡ Some job → may_reserve c decisions (Some job) ≡ false
  none_kept decisions many number job there =
      elim (and_cases (nat_lt reserved c.sched.max_reservation) (list_any asks_to_keep c.jobs) none) [
        | inl enough ↦
            let bound = ltb-false reserved c.sched.max_reservation enough in
            and_right (job.reserve && job.advance == 0) (nat_lt (count_by is_reserve decisions) c.sched.max_reservation)
            (le-ltb (count_by is_reserve decisions) c.sched.max_reservation (omega (arith, bound, many)))
        | inr unasked ↦ ap (λ asks. (asks && job.advance == 0) && nat_lt (count_by is_reserve decisions) c.sched.max_reservation) (none_asks c.jobs unasked number job there)
      ]

  still_many : (decisions : List Decision) (task : TaskId) → reserved ≤ count_by is_reserve decisions → reserved ≤ count_by is_reserve (decisions ++ Skip task ∷ [])
  still_many decisions task many = let pushed = sum_by_push (λ x. cond (is_reserve x) 1 0) decisions (Skip task) in omega (arith, many, pushed)

  module _ (groups : Groups) (order : List InstanceId) (now : ℕ) (booked : List Booking) (nowhere : (job : Job) → IsInTable c job → placement_of c groups order booked job now ≡ None) where
    one_waits : (decisions : List Decision) → reserved ≤ count_by is_reserve decisions → (task : TaskId) → decide c groups order now (booked, decisions) task ≡ (booked, decisions ++ Skip task ∷ [])
    one_waits decisions many task =
        sym (weighed_decides c groups order now booked booked decisions (decisions ++ Skip task ∷ []) task (Skip task)
        (sym (must_each_wait c groups order now booked decisions nowhere (none_kept decisions many) task)) (sym (append-nil booked)) refl)

    pub each_waits : (decisions : List Decision) → reserved ≤ count_by is_reserve decisions → (tasks : List TaskId)
        → (fold (decide c groups order now) (booked, decisions) tasks).1 ≡ decisions ++ map (λ task. Skip task) tasks
    each_waits decisions many [] = sym (append-nil decisions)
    each_waits decisions many (task ∷ tasks) =
        ap (λ so_far. (fold (decide c groups order now) so_far tasks).1) (one_waits decisions many task)
        ∙ each_waits (decisions ++ Skip task ∷ []) (still_many decisions task many) tasks
        ∙ append_assoc decisions (Skip task ∷ []) (map (λ t. Skip t) tasks)

module _ (c : Cluster) (basis : Basis) (is : IsBasis c basis) (none_left : basis.vacant ≡ []) (no_advances : c.advances ≡ []) (none_kept : may_keep c 0 ≡ false) where
  -- on a basis without a slot left
  pub all_waiting : AllWait c basis.moment
  unfolding run_of
  all_waiting tasks =
      let here = each_waits c 0 none_kept basis.groups basis.order basis.moment basis.booked (λ job _. nothing_placed c basis.groups basis.moment basis.booked basis.order job (none_vacant c basis.groups basis.moment basis.booked basis.order (sym none_left ∙ is.left) job) no_advances) [] (omega arith) tasks in
      sym ((λ i. run_by basis.groups (is.ordered i) (is.taken i)) ∙ (λ i. run_by (is.spelled i) (instance_order c (is.spelled i)) (base_bookings c (is.spelled i) basis.moment))) ∙ here
    where
      run_by : Groups → List InstanceId → List Booking → List Decision
      run_by groups order booked = (fold (decide c groups order basis.moment) (booked, []) tasks).1
