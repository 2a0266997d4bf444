-- What a run books of a limit: at each moment from now on no more than there is, unless more was booked before it.
use Rattle.std.proofs.Common.{◌≡◌, ℕ, ◌+◌, ◌≤◌, ◌<◌, ◌⊎◌, ◌&&◌, inl, inr, true, max, List, [], ◌∷◌, ◌++◌, fold, Option, Some, None, refl, sym, subst, ap, arith}
use Rattle.std.specs.List.{list_all}
use Rattle.std.specs.Prelude.{nat_lt, nat_le}
use Rattle.std.proofs.lemmas.Bool.{cond_both, cases_Bool, and_parts, or_cases, ltb-true, leb-true}
use Rattle.std.proofs.lemmas.List.{append-nil}
use Rattle.std.proofs.lemmas.List.Sums.{sum_by_push}
use Rattle.ge_collections.specs.Keyed.{at_number}
use Rattle.ge_model_rows.specs.Groups.{expanded}
use Rattle.ge_model_rows.specs.ClusterRows.{Cluster}
use Rattle.ge_model_rows.specs.DecisionRows.{Decision, Start, Skip}
use Rattle.ge_model_rows.specs.HostRows.{Groups, InstanceId}
use Rattle.ge_model_rows.specs.JobRows.{Job, Grant}
use Rattle.ge_model_rows.specs.ScheduleRows.{LimitId, Demand, Booking}
use Rattle.ge_model_rows.specs.TaskRows.{TaskId}
use Rattle.ge_model_place.specs.Bookings.{is_within, taken_by, demand_on, plain_sum, peak}
use Rattle.ge_model_place.proofs.Peaks.{within_peak}
use Rattle.ge_model_place.specs.Limits.{capacity_of, demands_of}
use Rattle.ge_model_place.specs.Placement.{has_room, have_room, are_open, are_admissible, job_placement, placement}
use Rattle.ge_model_place.specs.Windows.{window_end_from, is_in_time, booking_of, base_bookings}
use Rattle.ge_model_place.specs.Running.{serial_after, is_held_back, may_reserve, booking_at, booked_by, reserve_at, placed_at, first_moment, reserve_from, later_decision, decision_with, decision_of, decide, run_of}
use Rattle.ge_limits.specs.Limits.{last_serial}
use Rattle.ge_model_place.specs.Runs.{IsRun, KeepsLimits}
use Rattle.ge_model_place.proofs.Once.{Each, asks_once}
use Rattle.ge_model_place.proofs.Demanded.{demands_apart}
use Rattle.ge_model_place.proofs.Admitted.{job_placed_admissible}
use Rattle.ge_model_place.proofs.Decided.{groups, order, run_books}
use Rattle.ge_model_place.proofs.Laws.{run_is_run_of}

module _ (c : Cluster) (g : Groups) (limit : LimitId) (moment : ℕ) where
  -- what is booked of the limit at the moment
  abbrev booked_of : List Booking → ℕ
  booked_of booked = plain_sum booked limit moment

  -- no more than there is, unless more was booked before
  abbrev Keeps : List Booking → List Booking → Type 0
  Keeps before behind = booked_of behind ≤ max (capacity_of c g limit) (booked_of before)

  each_has_room : (booked : List Booking) (from until : ℕ) (ds : List Demand) → list_all (has_room c g booked from until) ds ≡ true
      → Each (λ (d : Demand). peak booked d.limit from until + d.amount ≤ capacity_of c g d.limit) ds
  each_has_room booked from until [] all = tt
  each_has_room booked from until (d ∷ ds) all =
      let parts = and_parts (has_room c g booked from until d) (list_all (has_room c g booked from until) ds) all in
      (leb-true (peak booked d.limit from until + d.amount) (capacity_of c g d.limit) parts.0, each_has_room booked from until ds parts.1)

  pub room_or_none : (job : Job) (booked : List Booking) (from : ℕ) (grants : List Grant) → from < window_end_from c job from → are_admissible c g job booked from grants ≡ true
      → (demand_on (demands_of c g job grants) limit ≡ 0) ⊎ (peak booked limit from (window_end_from c job from) + demand_on (demands_of c g job grants) limit ≤ capacity_of c g limit)
  unfolding are_admissible
  room_or_none job booked from grants ever admissible =
      let until = window_end_from c job from in
      let ds = demands_of c g job grants in
      let rooms = (and_parts (is_in_time c job from && are_open c g job grants) (have_room c g booked from until ds) admissible).1 in
      elim (or_cases (nat_le until from) (list_all (has_room c g booked from until) ds) rooms) [
        | inl empty ↦ absurd (let past : until ≤ from = leb-true until from empty in omega (arith, past, ever))
        | inr all ↦
            asks_once (λ (d : Demand). d.limit) (λ (d : Demand). d.amount) (λ l n. peak booked l from until + n ≤ capacity_of c g l) ds (demands_apart c g job grants) (each_has_room booked from until ds all) limit
      ]

  -- admissible grants, booked
  pub one_booked : (job : Job) (task : TaskId) (booked : List Booking) (from : ℕ) (grants : List Grant) → are_admissible c g job booked from grants ≡ true
      → Keeps booked (booked ++ booking_of c g job task grants from ∷ [])
  one_booked job task booked from grants admissible =
      let b = booking_of c g job task grants from in
      let whole = sum_by_push (taken_by limit moment) booked b in
      elim (cases_Bool (is_within b moment)) [
        | inl on ↦
            let parts = and_parts (nat_le from moment) (nat_lt moment (window_end_from c job from)) on in
            let since = leb-true from moment parts.0 in
            let before = ltb-true moment (window_end_from c job from) parts.1 in
            let takes : taken_by limit moment b ≡ demand_on (demands_of c g job grants) limit = rw on refl in
            elim (room_or_none job booked from grants (omega (arith, since, before)) admissible) [
              | inl nothing ↦ omega (arith, whole, takes, nothing)
              | inr room ↦ let within = within_peak booked limit from (window_end_from c job from) moment since before in omega (arith, whole, takes, room, within)
            ]
        | inr off ↦ let takes : taken_by limit moment b ≡ 0 = rw off refl in omega (arith, whole, takes)
      ]

  none_booked : (booked : List Booking) → Keeps booked (booked ++ [])
  none_booked booked =
      let e = ap booked_of (append-nil booked) in omega (arith, e)

  -- a placement, booked from its moment on
  placed_keeps : (instances : List InstanceId) (job : Option Job) (task : TaskId) (booked : List Booking) (from : ℕ) (grants : List Grant) → job_placement c g instances booked from job ≡ Some grants
      → Keeps booked (booked ++ booking_at c g job task grants from)
  placed_keeps instances None task booked from grants e = absurd cc
  placed_keeps instances (Some job) task booked from grants e = one_booked job task booked from grants (job_placed_admissible c g job booked from instances grants e)

  module _ (instances : List InstanceId) (now : ℕ) where
    reserve_keeps : (booked : List Booking) (task : TaskId) (at : ℕ) (grants : Option (List Grant)) → placed_at c g instances now booked task at ≡ grants
        → Keeps booked (booked ++ booked_by c g now (reserve_at task at grants))
    unfolding placement
    reserve_keeps booked task at None e = none_booked booked
    reserve_keeps booked task at (Some grants) e = placed_keeps instances (at_number c.jobs task.job) task booked at grants e

    found_keeps : (booked : List Booking) (task : TaskId) (found : Option ℕ) → Keeps booked (booked ++ booked_by c g now (reserve_from c g instances now booked task found))
    found_keeps booked task None = none_booked booked
    found_keeps booked task (Some at) = reserve_keeps booked task at (placed_at c g instances now booked task at) refl

    later_keeps : (booked : List Booking) (before : List Decision) (task : TaskId) → Keeps booked (booked ++ booked_by c g now (later_decision c g instances now booked before task))
    later_keeps booked before task =
        cond_both (may_reserve c before (at_number c.jobs task.job)) (reserve_from c g instances now booked task (first_moment c g instances now booked task)) (Skip task) (λ d. Keeps booked (booked ++ booked_by c g now d))
        (λ _. found_keeps booked task (first_moment c g instances now booked task))
        (λ _. none_booked booked)

    free_keeps : (booked : List Booking) (before : List Decision) (task : TaskId) (grants : Option (List Grant)) → placed_at c g instances now booked task now ≡ grants
        → Keeps booked (booked ++ booked_by c g now (decision_with c g instances now booked before task grants))
    unfolding placement
    free_keeps booked before task None e = later_keeps booked before task
    free_keeps booked before task (Some grants) e =
        cond_both (nat_lt last_serial (serial_after c before)) (Skip task) (Start (record { task = task; serial = serial_after c before; grants = grants })) (λ d. Keeps booked (booked ++ booked_by c g now d))
        (λ _. none_booked booked)
        (λ _. placed_keeps instances (at_number c.jobs task.job) task booked now grants e)

    one_decided : (booked : List Booking) (before : List Decision) (task : TaskId) → Keeps booked (booked ++ booked_by c g now (decision_of c g instances now booked before task))
    one_decided booked before task =
        cond_both (is_held_back c before (at_number c.jobs task.job)) (Skip task) (decision_with c g instances now booked before task (placed_at c g instances now booked task now)) (λ d. Keeps booked (booked ++ booked_by c g now d))
        (λ _. none_booked booked)
        (λ _. free_keeps booked before task (placed_at c g instances now booked task now) refl)

    -- what is booked once these tasks are decided too
    decided_keeps : (tasks : List TaskId) (booked : List Booking) (before : List Decision) → Keeps booked (fold (decide c g instances now) (booked, before) tasks).0
    decided_keeps [] booked before = omega arith
    decided_keeps (task ∷ tasks) booked before =
        let d = decision_of c g instances now booked before task in
        let one = one_decided booked before task in
        let rest = decided_keeps tasks (booked ++ booked_by c g now d) (before ++ d ∷ []) in
        omega (arith, one, rest)

-- a run keeps each limit
pub run_keeps_limits : (c : Cluster) (tasks : List TaskId) (now : ℕ) → KeepsLimits c now (run_of c tasks now)
run_keeps_limits c tasks now limit moment later =
    subst (λ booked. plain_sum booked limit moment ≤ max (capacity_of c (expanded c) limit) (plain_sum (base_bookings c (expanded c) now) limit moment)) (run_books c now tasks)
    (decided_keeps c (groups c now) limit moment (order c now) now tasks (base_bookings c (groups c now) now) [])

-- so does every run
pub each_run_keeps_limits : (c : Cluster) (tasks : List TaskId) (now : ℕ) (decisions : List Decision) → IsRun c tasks now decisions → KeepsLimits c now decisions
each_run_keeps_limits c tasks now decisions run = subst (λ ds. KeepsLimits c now ds) (sym (run_is_run_of c now tasks decisions run)) (run_keeps_limits c tasks now)
