-- Consumables that a job consumes once, each by computation.
use Rattle.std.specs.Prelude.{◌≡◌, ℕ, List, [], ◌∷◌, map, None, codes, refl}
use Rattle.ge_model_rows.specs.ClusterRows.{Cluster, bare_host}
use Rattle.ge_model_rows.specs.DecisionRows.{Decision, Skip}
use Rattle.ge_model_rows.specs.JobRows.{Job}
use Rattle.ge_model_rows.specs.PeRows.{Allocation, Fixed, PeSlots, FillUp, RoundRobin}
use Rattle.ge_model_rows.specs.ScheduleRows.{Global}
use Rattle.ge_model_rows.specs.ValueRows.{Consumable}
use Rattle.ge_model_place.specs.Bookings.{plain_sum}
use Rattle.ge_model_rows.specs.Groups.{expanded}
use Rattle.ge_model_rows.specs.Complexes.{opening}
use Rattle.ge_model_place.specs.Running.{run_of}
use Rattle.ge_model_place.specs.Windows.{base_bookings}
use Rattle.ge_model_jobs.proofs.Samples.{asking, with_pe, task, local, first_host, both_hosts, running, licence, licences, complexes_with, host, two_hosts}
use Rattle.ge_model_jobs.proofs.Samples.{local_queue, both_queue, for_pe, all_q, pe}
use Rattle.ge_model_place.proofs.Site.{runs, job, start, user_rule, rule_set}

-- one licence for all hosts, and four slots
unfoldable one_licence : Consumable → List (ℕ × Job) → Cluster
one_licence consumed jobs = record opening {
  complexes = complexes_with ((codes "lic", licence consumed 0) ∷ []);
  hosts = two_hosts (host (licences 1) []) bare_host;
  queues = all_q (for_pe (codes "smp") (local_queue 4));
  pes = (codes "smp", pe PeSlots) ∷ [];
  jobs = jobs;
}

unfoldable parallel_job : Job
parallel_job = with_pe (codes "smp") 3 3 (asking (licences 1) (job 1 (codes "ann")))

unfoldable both_jobs : List (ℕ × Job)
both_jobs = (1, parallel_job) ∷ (2, asking (licences 1) (job 2 (codes "ann"))) ∷ []

-- the three slots of job 1 use the licence once, and it is gone
once_for_a_job : run_of (one_licence Consumable.Job both_jobs) (task 1 1 ∷ task 2 1 ∷ []) 20 ≡ start 1 (task 1 1) (local 3) ∷ Skip (task 2 1) ∷ []
unfolding one_licence both_jobs parallel_job runs
once_for_a_job = refl

-- each of them would use one
once_for_a_slot : run_of (one_licence Consumable.Yes both_jobs) (task 1 1 ∷ task 2 1 ∷ []) 20 ≡ Skip (task 1 1) ∷ start 1 (task 2 1) (local 1) ∷ []
unfolding one_licence both_jobs parallel_job runs
once_for_a_slot = refl

-- what job 1 books of the licence while it runs on three slots
abbrev booked_while_it_runs : Consumable → ℕ
booked_while_it_runs consumed =
    let c = one_licence consumed ((1, record parallel_job { running = (1, running 1 10 (local 3)) ∷ [] }) ∷ []) in plain_sum (base_bookings c (expanded c) 20) (Global (codes "lic")) 20

booked_once : map booked_while_it_runs (Consumable.Job ∷ Consumable.Yes ∷ Consumable.No ∷ []) ≡ 1 ∷ 3 ∷ 0 ∷ []
unfolding one_licence parallel_job runs
booked_once = refl

-- a job that doesn't ask uses what the complex says, once
default_once : run_of (record (one_licence Consumable.Job ((1, with_pe (codes "smp") 3 3 (job 1 (codes "ann"))) ∷ [])) {
  complexes = complexes_with ((codes "lic", licence Consumable.Job 2) ∷ []);
  hosts = two_hosts (host (licences 2) []) bare_host;
}) (task 1 1 ∷ []) 20 ≡ start 1 (task 1 1) (local 3) ∷ []
unfolding one_licence runs
default_once = refl

-- a quota of the licence counts it once too
quota_once : run_of (record (one_licence Consumable.Job both_jobs) {
  hosts = two_hosts (host (licences 5) []) bare_host;
  quotas = (codes "few", rule_set (user_rule None ((codes "lic", 2) ∷ []) ∷ [])) ∷ [];
}) (task 1 1 ∷ task 2 1 ∷ []) 20 ≡ start 1 (task 1 1) (local 3) ∷ start 2 (task 2 1) (local 1) ∷ []
unfolding one_licence both_jobs parallel_job runs
quota_once = refl

-- slots are counted one by one, whatever the table says of them
slots_are_each : run_of (record (one_licence Consumable.Job both_jobs) {
  complexes = complexes_with ((codes "slots", licence Consumable.Job 1) ∷ []);
  jobs = (1, with_pe (codes "smp") 5 5 (job 1 (codes "ann"))) ∷ (2, with_pe (codes "smp") 4 4 (job 2 (codes "ann"))) ∷ [];
}) (task 1 1 ∷ task 2 1 ∷ []) 20 ≡ Skip (task 1 1) ∷ start 1 (task 2 1) (local 4) ∷ []
unfolding one_licence runs
slots_are_each = refl

-- two hosts with a licence each, where job 2 holds that of the second, and two slots on each

unfoldable licence_on_each : Allocation → ℕ → ℕ → Cluster
licence_on_each rule low high = record opening {
  complexes = complexes_with ((codes "lic", licence Consumable.Job 0) ∷ []);
  hosts = (codes "global", bare_host) ∷ (codes "h1", host (licences 1) []) ∷ (codes "h2", host (licences 1) []) ∷ [];
  queues = (codes "p", for_pe (codes "mp") (both_queue 2)) ∷ [];
  pes = (codes "mp", pe rule) ∷ [];
  jobs = (1, with_pe (codes "mp") low high (asking (licences 1) (job 1 (codes "ann")))) ∷ [];
}

abbrev placed_by_rule : Allocation → List Decision
placed_by_rule rule = run_of (licence_on_each rule 1 9) (task 1 1 ∷ []) 20

-- all slots of a host share its licence, under each rule
each_host_once : map placed_by_rule (FillUp ∷ RoundRobin ∷ Fixed 2 ∷ PeSlots ∷ [])
    ≡ (start 1 (task 1 1) (both_hosts 2 2) ∷ []) ∷ (start 1 (task 1 1) (both_hosts 2 2) ∷ []) ∷ (start 1 (task 1 1) (both_hosts 2 2) ∷ []) ∷ (start 1 (task 1 1) (first_host 2) ∷ []) ∷ []
unfolding licence_on_each runs
each_host_once = refl
