-- Urgency, priority and the order of a run, by computation.
use Rattle.std.specs.Prelude.{◌≡◌, ℕ, ◌-◌, ◌^◌, true, pos, negsuc, List, [], ◌∷◌, map, codes, refl}
use Rattle.ge_model_rows.specs.ClusterRows.{Cluster}
use Rattle.ge_model_rows.specs.JobRows.{Job}
use Rattle.ge_model_rows.specs.PeRows.{PeRow, PeSlots, UrgencySlots}
use Rattle.ge_model_rows.specs.ValueRows.{Amount, Flag, Kind, Le, Requestable, Consumable}
use Rattle.ge_model_rows.specs.ValueRows.{ComplexDef}
use Rattle.ge_collections.specs.Keyed.{put_text}
use Rattle.ge_model_rows.specs.Complexes.{opening}
use Rattle.ge_model_jobs.specs.Holds.{eligible_tasks}
use Rattle.ge_model_jobs.proofs.Samples.{span, asking, with_pe, prio, task, complex, pe, with_jobs}
use Rattle.ge_model_order.specs.Candidates.{is_candidate, candidates}
use Rattle.ge_model_order.specs.Priority.{priority_part, prios_of, prios_at, order_of, order_of_runs, sorted_prios}
use Rattle.ge_model_order.specs.Urgency.{urgency_of}
use Rattle.ge_model_order.proofs.Samples.{job_of, of_ann}

-- ---- urgency

abbrev waiting_for : List (ℕ × Job) → Cluster
waiting_for jobs = let c = with_jobs jobs in record c { sched = record c.sched { w_waiting = 1000000 } }

abbrev with_deadline : ℕ → Job
with_deadline deadline = record (job_of 1 (codes "ann") []) { deadline = deadline }

-- waiting adds one for each second from 10 on; the deadline of 1010 adds 3600000 divided by the seconds that are left
near_a_deadline : map (urgency_of (waiting_for []) (with_deadline 1010)) (10 ∷ 1009 ∷ 1010 ∷ 5000 ∷ 0 ∷ [])
    ≡ 4600000000 ∷ 3601999000000 ∷ 3602000000000 ∷ 3605990000000 ∷ 4564356435 ∷ []
unfolding urgency_of with_jobs opening
near_a_deadline = refl

abbrev some_pe : UrgencySlots → PeRow
some_pe urgency_slots = record (pe PeSlots) { slots = 10; urgency_slots = urgency_slots }

abbrev some_complex : Kind → ℕ → ComplexDef
some_complex kind urgency = record (complex (codes "x") kind Le Requestable.Yes Consumable.Yes (Amount 0)) { urgency = urgency }

-- four parallel environments, and three complexes with an urgency
unfoldable with_urgent : Cluster
with_urgent = let c = with_jobs [] in record c {
  pes = (codes "avg", some_pe UrgencySlots.Avg) ∷ (codes "max", some_pe UrgencySlots.Max) ∷ (codes "min", some_pe UrgencySlots.Min) ∷ (codes "seven", some_pe (UrgencySlots.Fixed 7)) ∷ [];
  complexes = put_text (put_text (put_text c.complexes (codes "lic") (some_complex Kind.Int 2500000)) (codes "frac") (some_complex Kind.Double 3000000)) (codes "gpu") (some_complex Kind.Bool 4000000);
}

abbrev under_pe : List ℕ → Job
under_pe name = with_pe name 3 8 (job_of 1 (codes "ann") [])

slots_that_are_assumed : map (λ name. urgency_of with_urgent (under_pe name) 10) (codes "avg" ∷ codes "max" ∷ codes "min" ∷ codes "seven" ∷ codes "gone" ∷ [])
    ≡ 5000000000 ∷ 8000000000 ∷ 3000000000 ∷ 7000000000 ∷ 1000000000 ∷ []
unfolding with_urgent urgency_of with_jobs opening
slots_that_are_assumed = refl

-- numbers count for each slot, a DOUBLE in ones, a flag once, a name that is no complex not at all, and of slots always one
abbrev asking_all : Job
asking_all = asking ((codes "frac", Amount 1500001) ∷ (codes "gpu", Flag true) ∷ (codes "lic", Amount 4) ∷ (codes "nosuch", Amount 5) ∷ (codes "slots", Amount 9) ∷ []) (under_pe (codes "min"))

what_is_asked_for : urgency_of with_urgent asking_all 10 ≡ 3047500009
unfolding with_urgent urgency_of with_jobs opening
what_is_asked_for = refl

-- an urgency ends at 2^100 - 1
most_urgent : Cluster
most_urgent = let c = with_jobs [] in record c { sched = record c.sched { w_waiting = 2 ^ 64 - 1 } }

cut_at_the_end : urgency_of most_urgent (job_of 1 (codes "ann") []) (2 ^ 64 - 1) ≡ 2 ^ 100 - 1
unfolding most_urgent urgency_of with_jobs opening
cut_at_the_end = refl

-- ---- priority

parts_of_priorities : map priority_part (pos 0 ∷ pos 1 ∷ negsuc 0 ∷ negsuc 99 ∷ negsuc 1022 ∷ negsuc 1999 ∷ pos 1024 ∷ pos 2147483647 ∷ [])
    ≡ 499755 ∷ 500244 ∷ 499267 ∷ 450903 ∷ 0 ∷ 0 ∷ 1000000 ∷ 1049088749389 ∷ []
parts_of_priorities = refl

one_that_waits : prios_at (with_jobs (of_ann 1 ∷ [])) 10 ≡ prio 1 499755 500000 0 549755000000 ∷ []
unfolding order_of_runs with_jobs opening
one_that_waits = refl

-- tickets of the share tree count against the greatest of them
shares_in_parts : prios_of (with_jobs (of_ann 1 ∷ of_ann 2 ∷ [])) (1 ∷ 2 ∷ []) (2549 ∷ 7450 ∷ []) 10
    ≡ prio 1 499755 500000 342147 553176470000 ∷ prio 2 499755 500000 1000000 559755000000 ∷ []
unfolding prios_of urgency_of with_jobs opening
shares_in_parts = refl

abbrev submitted_at : ℕ → ℕ → ℕ × Job
submitted_at number moment = (number, record (job_of number (codes "ann") []) { submitted = moment })

longer_waiting : prios_at (waiting_for (submitted_at 1 0 ∷ submitted_at 2 4 ∷ submitted_at 3 7 ∷ [])) 10
    ≡ prio 1 499755 1000000 0 599755000000 ∷ prio 2 499755 428571 0 542612100000 ∷ prio 3 499755 0 0 499755000000 ∷ []
unfolding order_of_runs with_jobs opening
longer_waiting = refl

-- what isn't there has a row of zeros
one_that_is_not_there : prios_of (with_jobs (of_ann 1 ∷ [])) (7 ∷ 1 ∷ []) (5 ∷ 0 ∷ []) 10 ≡ prio 7 0 0 0 0 ∷ prio 1 499755 500000 0 549755000000 ∷ []
unfolding prios_of urgency_of with_jobs opening
one_that_is_not_there = refl

-- ---- the order of a run

sorted_by_total_then_job : sorted_prios (prio 3 0 0 0 5 ∷ prio 2 0 0 0 9 ∷ prio 1 0 0 0 5 ∷ prio 4 0 0 0 0 ∷ [])
    ≡ prio 2 0 0 0 9 ∷ prio 1 0 0 0 5 ∷ prio 3 0 0 0 5 ∷ prio 4 0 0 0 0 ∷ []
sorted_by_total_then_job = refl

abbrev with_priority : ℕ → ℕ × Job
with_priority number = (number, record (job_of number (codes "root") []) { priority = pos 1 })

higher_first : order_of (with_jobs (of_ann 1 ∷ with_priority 2 ∷ [])) (prios_at (with_jobs (of_ann 1 ∷ with_priority 2 ∷ [])) 10) 10 ≡ task 2 1 ∷ task 1 1 ∷ []
unfolding order_of_runs with_jobs opening
higher_first = refl

-- the jobs of a day: an array, one that waits for it, a parallel one, one of low priority, one for later and one with a hold
abbrev day_jobs : List (ℕ × Job)
day_jobs =
    of_ann 1
    ∷ (2, record (job_of 2 (codes "ann") []) { array = true; span = span 1 4 1; queued = span 1 4 1 ∷ [] })
    ∷ (3, record (job_of 3 (codes "ann") []) { after = 2 ∷ [] })
    ∷ (4, with_pe (codes "min") 3 8 (job_of 4 (codes "bob") []))
    ∷ of_ann 5 ∷ of_ann 6 ∷ of_ann 7 ∷ of_ann 8
    ∷ (9, record (job_of 9 (codes "cy") []) { priority = negsuc 99 })
    ∷ (10, record (job_of 10 (codes "cy") []) { not_before = 5000 })
    ∷ (11, record (job_of 11 (codes "cy") []) { hold = 1 })
    ∷ of_ann 12
    ∷ []

unfoldable day : ℕ → Cluster
day max_pending = record with_urgent { jobs = day_jobs; sched = record with_urgent.sched { max_pending = max_pending } }

candidates_of_a_day : candidates (day 50) 20 ≡ 1 ∷ 2 ∷ 4 ∷ 5 ∷ 6 ∷ 7 ∷ 8 ∷ 9 ∷ 12 ∷ []
unfolding day with_urgent is_candidate eligible_tasks with_jobs opening
candidates_of_a_day = refl

order_of_a_day : order_of (day 50) (prios_at (day 50) 20) 20
    ≡ task 4 1 ∷ task 1 1 ∷ task 2 1 ∷ task 2 2 ∷ task 2 3 ∷ task 2 4 ∷ task 5 1 ∷ task 6 1 ∷ task 7 1 ∷ task 8 1 ∷ task 12 1 ∷ task 9 1 ∷ []
unfolding day with_urgent order_of_runs with_jobs opening
order_of_a_day = refl

-- at most two tasks of each job are considered
two_of_each : order_of (day 2) (prio 9 0 0 0 1 ∷ prio 2 0 0 0 7 ∷ prio 3 0 0 0 9 ∷ []) 20 ≡ task 2 1 ∷ task 2 2 ∷ task 9 1 ∷ []
unfolding day with_urgent order_of eligible_tasks with_jobs opening
two_of_each = refl
