-- Advance reservations: what they are granted, what they book, and the tasks that run in them; each by computation.
use Rattle.std.specs.Prelude.{◌≡◌, ℕ, List, [], ◌∷◌, ◌++◌, map, Option, Some, None, codes, refl}
use Rattle.ge_model_rows.specs.ClusterRows.{Cluster, default_sched}
use Rattle.ge_model_rows.specs.DecisionRows.{Skip}
use Rattle.ge_model_rows.specs.JobRows.{Job, Grant, Advance}
use Rattle.ge_model_rows.specs.PeRows.{FillUp}
use Rattle.ge_model_rows.specs.ScheduleRows.{LimitId, Instance, Advance as Booked}
use Rattle.ge_model_rows.specs.ValueRows.{Amount}
use Rattle.ge_model_place.specs.Bookings.{forever, plain_sum}
use Rattle.ge_model_rows.specs.Groups.{expanded}
use Rattle.ge_model_rows.specs.Complexes.{opening}
use Rattle.ge_model_place.specs.Advances.{stand_in, advance_grants}
use Rattle.ge_model_place.specs.Limits.{capacity_of}
use Rattle.ge_model_place.specs.Running.{run_of}
use Rattle.ge_model_place.specs.Windows.{window_end_from, base_bookings}
use Rattle.ge_model_jobs.proofs.Samples.{lasting, task, instance, all_at_local, local, running, pe, local_queue, for_pe, all_q, some_advance}
use Rattle.ge_model_place.proofs.Site.{runs, job, reserving, start}

-- a reservation of ann for what is asked, from a moment until before another
abbrev advance : ℕ → ℕ → List Grant → Advance
advance from until grants = some_advance (codes "ar") from until grants

-- a job that is sent into a reservation
abbrev sent_into : ℕ → Job → Job
sent_into number j = record j { advance = number }

abbrev since : ℕ → ℕ → ℕ → Job → Job
since serial moment slots j = record j { running = (1, running serial moment (local slots)) ∷ [] }

-- two slots, one of them reserved from 100 to 150
unfoldable reserved : ℕ → List (ℕ × Job) → Cluster
reserved serial jobs = record opening { next_serial = serial; next_advance = 2; advances = (1, advance 100 150 (local 1)) ∷ []; jobs = jobs }

unfoldable a : ℕ × Job
a = (1, lasting 200 (job 1 (codes "ann")))

unfoldable b : ℕ × Job
b = (2, lasting 200 (job 2 (codes "ann")))

unfoldable c : ℕ × Job
c = (3, lasting 100 (job 3 (codes "ann")))

unfoldable d : ℕ × Job
d = (4, sent_into 1 (job 4 (codes "ann")))

-- job 2 would run into the reservation, job 3 ends where it begins, and job 4 may not begin before it
backfill_before_a_reservation : run_of (reserved 1 (a ∷ b ∷ c ∷ d ∷ [])) (task 1 1 ∷ task 2 1 ∷ task 3 1 ∷ task 4 1 ∷ []) 0
    ≡ start 1 (task 1 1) (local 1) ∷ Skip (task 2 1) ∷ start 2 (task 3 1) (local 1) ∷ Skip (task 4 1) ∷ []
unfolding reserved a b c d runs
backfill_before_a_reservation = refl

-- job 3 is over: the slot is the reservation's, and job 4 takes it
task_in_a_reservation : run_of (reserved 3 ((1, since 1 0 1 a.1) ∷ b ∷ d ∷ [])) (task 2 1 ∷ task 4 1 ∷ []) 100 ≡ Skip (task 2 1) ∷ start 3 (task 4 1) (local 1) ∷ []
unfolding reserved a b d runs
task_in_a_reservation = refl

-- the reservation is over, but job 4 still runs in it
task_that_overruns : run_of (reserved 4 ((1, since 1 0 1 a.1) ∷ b ∷ (4, since 3 100 1 d.1) ∷ [])) (task 2 1 ∷ []) 150 ≡ Skip (task 2 1) ∷ []
unfolding reserved a b d runs
task_that_overruns = refl

-- nothing runs in it
reservation_is_over : run_of (reserved 4 ((1, since 1 0 1 a.1) ∷ b ∷ [])) (task 2 1 ∷ []) 150 ≡ start 4 (task 2 1) (local 1) ∷ []
unfolding reserved a b runs
reservation_is_over = refl

-- without one job 2 starts at once
no_reservation : run_of (record (reserved 1 (a ∷ b ∷ c ∷ [])) { advances = [] }) (task 1 1 ∷ task 2 1 ∷ task 3 1 ∷ []) 0 ≡ start 1 (task 1 1) (local 1) ∷ start 2 (task 2 1) (local 1) ∷ Skip (task 3 1) ∷ []
unfolding reserved a b c runs
no_reservation = refl

-- a reservation has one slot, a second task finds none; one whose reservation isn't there never starts, nor is any of them reserved
one_slot_in_a_reservation : run_of (record (reserved 1 (d ∷ (5, reserving (sent_into 1 (job 5 (codes "ann")))) ∷ (6, sent_into 2 (job 6 (codes "ann"))) ∷ [])) { sched = record default_sched { max_reservation = 9 } }) (task 4 1 ∷ task 5 1 ∷ task 6 1 ∷ []) 100
    ≡ start 1 (task 4 1) (local 1) ∷ Skip (task 5 1) ∷ Skip (task 6 1) ∷ []
unfolding reserved d runs
one_slot_in_a_reservation = refl

-- what is booked

abbrev queue_slots : LimitId
queue_slots = Instance all_at_local (codes "slots")

abbrev booked_slots : LimitId
booked_slots = Booked 1 all_at_local

abbrev booked_at : Cluster → ℕ → LimitId → ℕ → ℕ
booked_at cluster now limit moment = plain_sum (base_bookings cluster (expanded cluster) now) limit moment

slot_of_a_reservation : map (booked_at (reserved 1 []) 0 queue_slots) (99 ∷ 100 ∷ 149 ∷ 150 ∷ []) ≡ 0 ∷ 1 ∷ 1 ∷ 0 ∷ []
unfolding reserved runs
slot_of_a_reservation = refl

-- a task in it takes the reservation's slot, and none of the queue's
slot_in_a_reservation : map (booked_at (reserved 1 ((4, since 1 110 1 d.1) ∷ [])) 120 booked_slots) (109 ∷ 110 ∷ 149 ∷ 150 ∷ []) ≡ 0 ∷ 1 ∷ 1 ∷ 0 ∷ []
unfolding reserved d runs
slot_in_a_reservation = refl

slot_beside_a_task_in_it : map (booked_at (reserved 1 ((4, since 1 110 1 d.1) ∷ [])) 120 queue_slots) (99 ∷ 100 ∷ 149 ∷ 150 ∷ []) ≡ 0 ∷ 1 ∷ 1 ∷ 0 ∷ []
unfolding reserved d runs
slot_beside_a_task_in_it = refl

-- the task overruns: both are booked up to the next moment
slots_of_one_that_overran : map (booked_at (reserved 1 ((4, since 1 110 1 d.1) ∷ [])) 170 queue_slots) (150 ∷ 170 ∷ 171 ∷ []) ++ map (booked_at (reserved 1 ((4, since 1 110 1 d.1) ∷ [])) 170 booked_slots) (150 ∷ 170 ∷ 171 ∷ [])
    ≡ 1 ∷ 1 ∷ 0 ∷ 1 ∷ 1 ∷ 0 ∷ []
unfolding reserved d runs
slots_of_one_that_overran = refl

abbrev capacity_in : Cluster → LimitId → ℕ
capacity_in cluster limit = capacity_of cluster (expanded cluster) limit

slots_granted : map (capacity_in (reserved 1 [])) (booked_slots ∷ Booked 1 (instance (codes "all.q") (codes "h1")) ∷ Booked 2 all_at_local ∷ []) ≡ 1 ∷ 0 ∷ 0 ∷ []
unfolding reserved runs
slots_granted = refl

-- windows end with the reservation, and no later than they would
ends_with_it : map (λ j. window_end_from (reserved 1 []) j 110) (d.1 ∷ lasting 10 d.1 ∷ lasting 10 (job 5 (codes "ann")) ∷ job 6 (codes "ann") ∷ sent_into 2 (job 7 (codes "ann")) ∷ []) ≡ 150 ∷ 120 ∷ 120 ∷ forever ∷ forever ∷ []
unfolding reserved d runs
ends_with_it = refl

-- what is granted: the two slots of the opening cluster, and then none

abbrev granted_beside : List (ℕ × Advance) → Option (List Grant)
granted_beside advances = advance_grants (record opening { advances = advances }) 0 (advance 100 150 [])

two_are_granted : map granted_beside ([] ∷ ((1, advance 100 150 (local 1)) ∷ []) ∷ ((1, advance 100 150 (local 1)) ∷ (2, advance 100 150 (local 1)) ∷ []) ∷ []) ≡ Some (local 1) ∷ Some (local 1) ∷ None ∷ []
unfolding advance_grants runs
two_are_granted = refl

-- beside one that ends where it begins, and one that begins where it ends, both slots are free
beside_others : advance_grants (record opening {
  queues = all_q (for_pe (codes "smp") (local_queue 2));
  pes = (codes "smp", pe FillUp) ∷ [];
  advances = (1, advance 50 100 (local 2)) ∷ (2, advance 150 200 (local 2)) ∷ [];
}) 0 (record (advance 100 150 []) { request = record { asked = []; queues = []; pe = Some (record { name = codes "smp"; low = 1; high = 9 }) } }) ≡ Some (local 2)
unfolding advance_grants runs
beside_others = refl

-- a task that runs without an end leaves one slot
beside_a_task : advance_grants (record opening { jobs = (1, since 1 0 1 (job 1 (codes "ann"))) ∷ []; advances = (1, advance 120 130 (local 1)) ∷ [] }) 0 (advance 100 121 []) ≡ None
unfolding advance_grants runs
beside_a_task = refl

-- the limits of time that a reservation asks for give way to the time that it lasts
as_long_as_it_lasts : (stand_in (record (advance 100 150 []) { request = record { asked = (codes "h_rt", Amount 9) ∷ (codes "lic", Amount 1) ∷ (codes "s_rt", Amount 5) ∷ []; queues = []; pe = None } })).request.asked
    ≡ (codes "h_rt", Amount 50) ∷ (codes "lic", Amount 1) ∷ []
as_long_as_it_lasts = refl
