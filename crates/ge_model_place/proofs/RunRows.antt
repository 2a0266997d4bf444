-- Runs with reservations, quotas and parallel environments, each by computation.
use Rattle.std.specs.Prelude.{◌≡◌, ℕ, true, false, List, [], ◌∷◌, map, codes, refl}
use Rattle.ge_model_rows.specs.ClusterRows.{Cluster, default_sched}
use Rattle.ge_model_rows.specs.DecisionRows.{Decision, Skip}
use Rattle.ge_model_rows.specs.JobRows.{Job, Grant}
use Rattle.ge_model_rows.specs.PeRows.{Allocation, Fixed, PeSlots, FillUp, RoundRobin}
use Rattle.ge_model_rows.specs.QuotaRows.{Rule}
use Rattle.ge_model_rows.specs.Complexes.{opening}
use Rattle.ge_model_place.specs.Running.{run_of}
use Rattle.ge_model_jobs.proofs.Samples.{lasting, in_queues, with_pe, task, slots_of, one_slot, local, first_host, both_hosts, since}
use Rattle.ge_model_jobs.proofs.Samples.{bare_hosts, queue_on, local_queue, both_queue, for_pe, all_q, pe}
use Rattle.ge_model_place.proofs.Site.{runs, job, reserving, start, reserve, filter_of, user_rule, rule_set}

-- backfill: job 1 runs up to 100 on one of two slots, job 2 asks for both and a reservation, 3 and 4 for one

unfoldable backfill : ℕ → List (ℕ × Job) → Cluster
backfill reservations more = record opening {
  next_serial = 2;
  queues = all_q (for_pe (codes "smp") (local_queue 2));
  pes = (codes "smp", pe PeSlots) ∷ [];
  sched = record default_sched { max_reservation = reservations };
  jobs = (1, record (lasting 100 (job 1 (codes "ann"))) { running = since 1 1 0 ∷ [] })
      ∷ (2, with_pe (codes "smp") 2 2 (reserving (lasting 100 (job 2 (codes "ann")))))
      ∷ (3, lasting 61 (job 3 (codes "ann")))
      ∷ (4, lasting 50 (job 4 (codes "ann")))
      ∷ more;
}

-- job 3 would hold a slot at 100
a_slot_before_the_reservation : run_of (backfill 1 []) (task 2 1 ∷ task 3 1 ∷ task 4 1 ∷ []) 40
    ≡ reserve (task 2 1) 100 (local 2) ∷ Skip (task 3 1) ∷ start 2 (task 4 1) (local 1) ∷ []
unfolding backfill runs
a_slot_before_the_reservation = refl

no_reservation : run_of (backfill 0 []) (task 2 1 ∷ task 3 1 ∷ task 4 1 ∷ []) 40 ≡ Skip (task 2 1) ∷ start 2 (task 3 1) (local 1) ∷ Skip (task 4 1) ∷ []
unfolding backfill runs
no_reservation = refl

no_more_than_one_reservation : run_of (backfill 1 ((5, with_pe (codes "smp") 2 2 (reserving (lasting 100 (job 5 (codes "ann"))))) ∷ [])) (task 2 1 ∷ task 3 1 ∷ task 4 1 ∷ task 5 1 ∷ []) 40
    ≡ reserve (task 2 1) 100 (local 2) ∷ Skip (task 3 1) ∷ start 2 (task 4 1) (local 1) ∷ Skip (task 5 1) ∷ []
unfolding backfill runs
no_more_than_one_reservation = refl

-- the end of a reservation is a moment for the next one
after_a_reservation : run_of (backfill 2 ((5, with_pe (codes "smp") 2 2 (reserving (lasting 100 (job 5 (codes "ann"))))) ∷ [])) (task 2 1 ∷ task 3 1 ∷ task 4 1 ∷ task 5 1 ∷ []) 40
    ≡ reserve (task 2 1) 100 (local 2) ∷ Skip (task 3 1) ∷ start 2 (task 4 1) (local 1) ∷ reserve (task 5 1) 200 (local 2) ∷ []
unfolding backfill runs
after_a_reservation = refl

-- quotas of users: jobs 1 to 3 of ann, 4 and 5 of bob, on four slots

unfoldable five_jobs : List Rule → Cluster
five_jobs rules = record opening {
  queues = all_q (local_queue 4);
  quotas = (codes "few", rule_set rules) ∷ [];
  jobs = (1, job 1 (codes "ann")) ∷ (2, job 2 (codes "ann")) ∷ (3, job 3 (codes "ann")) ∷ (4, job 4 (codes "bob")) ∷ (5, job 5 (codes "bob")) ∷ [];
}

abbrev run_of_five : List Rule → List Decision
run_of_five rules = run_of (five_jobs rules) (task 1 1 ∷ task 2 1 ∷ task 3 1 ∷ task 4 1 ∷ task 5 1 ∷ []) 20

abbrev pub slots_to : ℕ → List (List ℕ × ℕ)
slots_to n = (codes "slots", n) ∷ []

one_for_each_user : run_of_five (user_rule (filter_of true (codes "*" ∷ []) []) (slots_to 1) ∷ [])
    ≡ start 1 (task 1 1) (local 1) ∷ Skip (task 2 1) ∷ Skip (task 3 1) ∷ start 2 (task 4 1) (local 1) ∷ Skip (task 5 1) ∷ []
unfolding five_jobs runs
one_for_each_user = refl

one_for_all_users : run_of_five (user_rule (filter_of false (codes "*" ∷ []) []) (slots_to 1) ∷ [])
    ≡ start 1 (task 1 1) (local 1) ∷ Skip (task 2 1) ∷ Skip (task 3 1) ∷ Skip (task 4 1) ∷ Skip (task 5 1) ∷ []
unfolding five_jobs runs
one_for_all_users = refl

-- the first rule is for all but ann, the second for her
first_rule_that_matches : run_of_five (user_rule (filter_of false [] (codes "ann" ∷ [])) (slots_to 1) ∷ user_rule (filter_of false (codes "*" ∷ []) []) (slots_to 2) ∷ [])
    ≡ start 1 (task 1 1) (local 1) ∷ start 2 (task 2 1) (local 1) ∷ Skip (task 3 1) ∷ start 3 (task 4 1) (local 1) ∷ Skip (task 5 1) ∷ []
unfolding five_jobs runs
first_rule_that_matches = refl

-- parallel environments: a queue with four slots on one host and two on another

unfoldable parallel : Allocation → ℕ → ℕ → Cluster
parallel rule low high = record opening {
  hosts = bare_hosts (codes "h1" ∷ codes "h2" ∷ []);
  queues = (codes "p", for_pe (codes "e") (record (both_queue 4) { slots = record { plain = 4; overrides = (codes "h2", 2) ∷ [] } })) ∷ [];
  pes = (codes "e", pe rule) ∷ [];
  jobs = (1, with_pe (codes "e") low high (job 1 (codes "ann"))) ∷ [];
}

abbrev run_of_one : Allocation → ℕ → ℕ → List Decision
run_of_one rule low high = run_of (parallel rule low high) (task 1 1 ∷ []) 20

in_turn_as_many_as_there_are : run_of_one RoundRobin 3 7 ≡ start 1 (task 1 1) (both_hosts 4 2) ∷ []
unfolding parallel runs
in_turn_as_many_as_there_are = refl

filled_as_many_as_there_are : run_of_one FillUp 3 7 ≡ start 1 (task 1 1) (both_hosts 4 2) ∷ []
unfolding parallel runs
filled_as_many_as_there_are = refl

on_the_host_with_most : run_of_one PeSlots 3 7 ≡ start 1 (task 1 1) (first_host 4) ∷ []
unfolding parallel runs
on_the_host_with_most = refl

two_on_each : run_of_one (Fixed 2) 3 7 ≡ start 1 (task 1 1) (both_hosts 2 2) ∷ []
unfolding parallel runs
two_on_each = refl

three_in_turn : run_of_one RoundRobin 3 3 ≡ start 1 (task 1 1) (both_hosts 2 1) ∷ []
unfolding parallel runs
three_in_turn = refl

three_filled : run_of_one FillUp 3 3 ≡ start 1 (task 1 1) (first_host 3) ∷ []
unfolding parallel runs
three_filled = refl

-- no multiple of two is in the range
no_block : run_of_one (Fixed 2) 3 3 ≡ Skip (task 1 1) ∷ []
unfolding parallel runs
no_block = refl

-- four slots fit on no more than one host, and only one block of four is asked for
one_block_of_four : run_of_one (Fixed 4) 1 7 ≡ start 1 (task 1 1) (first_host 4) ∷ []
unfolding parallel runs
one_block_of_four = refl

too_many : map (λ rule. run_of_one rule 7 9) (FillUp ∷ PeSlots ∷ Fixed 2 ∷ RoundRobin ∷ []) ≡ (Skip (task 1 1) ∷ []) ∷ (Skip (task 1 1) ∷ []) ∷ (Skip (task 1 1) ∷ []) ∷ (Skip (task 1 1) ∷ []) ∷ []
unfolding parallel runs
too_many = refl

-- two rule sets whose limits meet on a host: the third job has what the second asks for, and starts once it fits

unfoldable two_sets : List (ℕ × Job) → Cluster
two_sets more = record opening {
  hosts = bare_hosts (codes "h1" ∷ codes "h2" ∷ codes "h3" ∷ []);
  queues = (codes "p", for_pe (codes "fu") (queue_on (codes "h1" ∷ codes "h2" ∷ codes "h3" ∷ []) 1)) ∷ [];
  pes = (codes "fu", pe FillUp) ∷ [];
  quotas =
      (codes "x", rule_set (record (user_rule (filter_of false (codes "ann" ∷ []) []) (slots_to 1)) { hosts = filter_of false (codes "h1" ∷ codes "h2" ∷ []) [] } ∷ []))
      ∷ (codes "y", rule_set (record (user_rule (filter_of false (codes "ann" ∷ []) []) (slots_to 1)) { hosts = filter_of false (codes "h1" ∷ codes "h3" ∷ []) [] } ∷ []))
      ∷ [];
  jobs = (1, in_queues (codes "p@h1" ∷ []) (job 1 (codes "bob"))) ∷ (2, with_pe (codes "fu") 2 2 (job 2 (codes "ann"))) ∷ more;
}

abbrev on_h2_and_h3 : List Grant
on_h2_and_h3 = slots_of (codes "p") (codes "h2") 1 ∷ slots_of (codes "p") (codes "h3") 1 ∷ []

-- the first slot goes to h1, and beside it neither h2 nor h3 takes one
first_choice_stays : run_of (two_sets []) (task 2 1 ∷ task 1 1 ∷ []) 20 ≡ Skip (task 2 1) ∷ start 1 (task 1 1) (one_slot (codes "p") (codes "h1")) ∷ []
unfolding two_sets runs
first_choice_stays = refl

same_request_again : run_of (two_sets ((3, with_pe (codes "fu") 2 2 (job 3 (codes "ann"))) ∷ [])) (task 2 1 ∷ task 1 1 ∷ task 3 1 ∷ []) 20
    ≡ Skip (task 2 1) ∷ start 1 (task 1 1) (one_slot (codes "p") (codes "h1")) ∷ start 2 (task 3 1) on_h2_and_h3 ∷ []
unfolding two_sets runs
same_request_again = refl
