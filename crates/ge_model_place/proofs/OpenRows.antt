-- Which instances take a job, their order, and what is counted there, each by computation.
use Rattle.std.specs.Prelude.{◌≡◌, ℕ, ◌-◌, ◌*◌, ◌^◌, Bool, true, false, List, [], ◌∷◌, map, codes, refl}
use Rattle.ge_model_rows.specs.ClusterRows.{Cluster, default_sched, bare_host}
use Rattle.ge_model_rows.specs.ClusterRows.{plain_attr}
use Rattle.ge_model_rows.specs.DecisionRows.{Skip}
use Rattle.ge_model_rows.specs.JobRows.{Job}
use Rattle.ge_model_rows.specs.PeRows.{PeSlots, FillUp}
use Rattle.ge_model_rows.specs.QueueRows.{QueueRow}
use Rattle.ge_model_rows.specs.ScheduleRows.{Instance, Host, Global, Pe, Quota, Booking}
use Rattle.ge_model_rows.specs.SettingRows.{SortMethod, Load, Seqno}
use Rattle.ge_model_rows.specs.ValueRows.{Value, Amount, Flag, Word, Int, Le, Ge, Requestable, Consumable, ComplexDef}
use Rattle.ge_model_rows.specs.Groups.{expanded}
use Rattle.ge_model_rows.specs.Complexes.{opening}
use Rattle.ge_model_place.specs.InstanceOrder.{instance_order}
use Rattle.ge_model_place.specs.Limits.{Counted, counted_at, demands_of}
use Rattle.ge_model_place.specs.Opening.{is_open, reaches_threshold, names_instance}
use Rattle.ge_model_place.specs.Placement.{are_admissible}
use Rattle.ge_model_place.specs.Running.{run_of}
use Rattle.ge_model_place.specs.Windows.{duration_of, base_bookings}
use Rattle.ge_model_jobs.proofs.Samples.{asking, lasting, with_pe, task, instance, slots_of, one_slot, all_at_local, local, since, complex, gigabytes, memory, forced_flag}
use Rattle.ge_model_jobs.proofs.Samples.{complexes_with, host, loaded, two_hosts, bare_hosts, queue_on, local_queue, both_queue, for_pe, all_q, pe}
use Rattle.ge_model_place.proofs.Site.{runs, job, start, filter_of, user_rule, rule_set}

-- one complex more, values of the host, and jobs of ann by number from 1 on

unfoldable with_complex : List ℕ → ComplexDef → Value → List (ℕ × Job) → Cluster
with_complex name row value jobs = record opening {
  complexes = complexes_with ((name, row) ∷ []);
  hosts = two_hosts bare_host (host ((name, value) ∷ []) []);
  jobs = jobs;
}

abbrev of_ann : ℕ → List (List ℕ × Value) → ℕ × Job
of_ann number asked = (number, asking asked (job number (codes "ann")))

-- 4 is not at least 5, and arch is at no level
values_that_admit : run_of (with_complex (codes "ver") (complex (codes "c") Int Ge Requestable.Yes Consumable.No (Amount 0)) (Amount 5)
    (of_ann 1 ((codes "ver", Amount 5) ∷ []) ∷ of_ann 2 ((codes "ver", Amount 4) ∷ []) ∷ of_ann 3 ((codes "arch", Word (codes "lx")) ∷ []) ∷ []))
    (task 1 1 ∷ task 2 1 ∷ task 3 1 ∷ []) 0
    ≡ start 1 (task 1 1) (local 1) ∷ Skip (task 2 1) ∷ Skip (task 3 1) ∷ []
unfolding with_complex runs
values_that_admit = refl

forced_is_for_those_who_ask : run_of (with_complex (codes "gpu") (forced_flag (codes "c")) (Flag true)
    (of_ann 1 [] ∷ of_ann 2 ((codes "gpu", Flag true) ∷ []) ∷ [])) (task 1 1 ∷ task 2 1 ∷ []) 0
    ≡ Skip (task 1 1) ∷ start 1 (task 2 1) (local 1) ∷ []
unfolding with_complex runs
forced_is_for_those_who_ask = refl

-- slots count as asked for
forced_slots : run_of (with_complex (codes "slots") (complex (codes "c") Int Le Requestable.Forced Consumable.Yes (Amount 1)) (Amount 1) (of_ann 1 [] ∷ of_ann 2 [] ∷ [])) (task 1 1 ∷ task 2 1 ∷ []) 0
    ≡ start 1 (task 1 1) (local 1) ∷ Skip (task 2 1) ∷ []
unfolding with_complex runs
forced_slots = refl

-- a job without a request takes the default, one that asks for nothing takes nothing
nothing_asked : run_of (with_complex (codes "mem") (memory (codes "c")) (gigabytes 1) (of_ann 1 [] ∷ of_ann 2 ((codes "mem", Amount 0) ∷ []) ∷ [])) (task 1 1 ∷ task 2 1 ∷ []) 0
    ≡ start 1 (task 1 1) (local 1) ∷ start 2 (task 2 1) (local 1) ∷ []
unfolding with_complex runs
nothing_asked = refl

default_taken : run_of (with_complex (codes "mem") (memory (codes "c")) (gigabytes 1) (of_ann 1 [] ∷ of_ann 2 [] ∷ [])) (task 1 1 ∷ task 2 1 ∷ []) 0 ≡ start 1 (task 1 1) (local 1) ∷ Skip (task 2 1) ∷ []
unfolding with_complex runs
default_taken = refl

-- a consumable that is configured nowhere
asked_but_not_there : run_of (record (with_complex (codes "mem") (memory (codes "c")) (gigabytes 1) (of_ann 1 ((codes "mem", Amount 0) ∷ []) ∷ [])) { hosts = bare_hosts (codes "local" ∷ []) })
    (task 1 1 ∷ []) 0 ≡ Skip (task 1 1) ∷ []
unfolding with_complex runs
asked_but_not_there = refl

-- each slot takes the amount: two slots of a gigabyte each, where there are two and where there is one
two_slots_take_twice : map (λ there. run_of (record (with_complex (codes "mem") (memory (codes "c")) (Amount there) ((1, with_pe (codes "e") 2 2 (job 1 (codes "ann"))) ∷ [])) {
  queues = all_q (for_pe (codes "e") (local_queue 2));
  pes = (codes "e", pe FillUp) ∷ [];
}) (task 1 1 ∷ []) 0) (2 * 2 ^ 30 ∷ (2 * 2 ^ 30 - 1) ∷ [])
    ≡ (start 1 (task 1 1) (local 2) ∷ []) ∷ (Skip (task 1 1) ∷ []) ∷ []
unfolding with_complex runs
two_slots_take_twice = refl

-- demands in their order: the instance's, the host's, those of all, the PE's, the quotas'
unfoldable each_level : Cluster
each_level = record opening {
  complexes = complexes_with ((codes "mem", memory (codes "c")) ∷ []);
  hosts = two_hosts (host ((codes "mem", Amount 900) ∷ []) []) (host ((codes "mem", Amount 800) ∷ []) []);
  queues = all_q (record (local_queue 3) { values = plain_attr ((codes "mem", Amount 700) ∷ (codes "slots", Amount 1) ∷ []) });
  pes = (codes "e", pe FillUp) ∷ [];
  quotas = (codes "few", rule_set (user_rule (filter_of true (codes "*" ∷ []) []) ((codes "arch", 1) ∷ (codes "mem", 600) ∷ (codes "slots", 5) ∷ []) ∷ [])) ∷ [];
}

demands_of_each_level : demands_of each_level (expanded each_level) (with_pe (codes "e") 1 3 (asking ((codes "mem", Amount 10) ∷ []) (job 1 (codes "ann")))) (local 2)
    ≡ record { limit = Instance all_at_local (codes "mem"); amount = 20 }
    ∷ record { limit = Instance all_at_local (codes "slots"); amount = 2 }
    ∷ record { limit = Host (codes "local") (codes "mem"); amount = 20 }
    ∷ record { limit = Global (codes "mem"); amount = 20 }
    ∷ record { limit = Pe (codes "e"); amount = 2 }
    ∷ record { limit = Quota (record { set = codes "few"; rule = 1; user = codes "ann"; project = []; pe = []; queue = []; host = []; resource = codes "mem" }); amount = 20 }
    ∷ record { limit = Quota (record { set = codes "few"; rule = 1; user = codes "ann"; project = []; pe = []; queue = []; host = []; resource = codes "slots" }); amount = 2 }
    ∷ []
unfolding each_level runs
demands_of_each_level = refl

capacities : map (λ (counted : Counted). counted.capacity) (counted_at each_level (expanded each_level) (with_pe (codes "e") 1 3 (job 1 (codes "ann"))) all_at_local)
    ≡ 700 ∷ 3 ∷ 800 ∷ 900 ∷ 100 ∷ 600 ∷ 5 ∷ []
unfolding each_level runs
capacities = refl

-- two instances of one host: their slots apart, the host's memory together, cut at the end of its type
together_on_a_host : demands_of (record each_level { quotas = [] }) (expanded each_level) (asking ((codes "mem", Amount (2 ^ 48 - 1)) ∷ []) (job 1 (codes "ann")))
    (slots_of (codes "b.q") (codes "local") (2 ^ 16) ∷ slots_of (codes "c.q") (codes "local") 1 ∷ slots_of (codes "b.q") (codes "local") 0 ∷ [])
    ≡ record { limit = Host (codes "local") (codes "mem"); amount = 2 ^ 64 - 1 } ∷ record { limit = Global (codes "mem"); amount = 2 ^ 64 - 1 } ∷ []
unfolding each_level runs
together_on_a_host = refl

-- three instances on two hosts
unfoldable sorted : SortMethod → Cluster
sorted sort = record opening {
  hosts = (codes "global", bare_host)
      ∷ (codes "h1", loaded (Amount 900000))
      ∷ (codes "h2", loaded (Amount 800000))
      ∷ (codes "h3", loaded (Word (codes "low")))
      ∷ [];
  queues = (codes "a.q", record (queue_on (codes "h1" ∷ codes "h3" ∷ []) 1) { seq_no = plain_attr 1 })
      ∷ (codes "b.q", record (both_queue 1) { seq_no = record { plain = 0; overrides = (codes "h2", 1) ∷ [] } })
      ∷ [];
  sched = record default_sched { sort = sort };
}

by_load : instance_order (sorted Load) (expanded (sorted Load)) ≡ instance (codes "b.q") (codes "h2") ∷ instance (codes "b.q") (codes "h1") ∷ instance (codes "a.q") (codes "h1") ∷ instance (codes "a.q") (codes "h3") ∷ []
unfolding sorted runs
by_load = refl

by_number : instance_order (sorted Seqno) (expanded (sorted Seqno)) ≡ instance (codes "b.q") (codes "h1") ∷ instance (codes "b.q") (codes "h2") ∷ instance (codes "a.q") (codes "h1") ∷ instance (codes "a.q") (codes "h3") ∷ []
unfolding sorted runs
by_number = refl

-- thresholds: np_load_avg of 1.75 and mem_free, whose relation is the other way

unfoldable reporting : List (List ℕ × Value) → Cluster
reporting report = record opening {
  hosts = two_hosts bare_host (host [] report);
  queues = all_q (record (local_queue 1) { thresholds = plain_attr ((codes "mem_free", Amount 100) ∷ (codes "np_load_avg", Amount 1750000) ∷ []) });
}

reached_or_not : map (λ report. reaches_threshold (reporting report) (expanded (reporting report)) all_at_local)
    ([] ∷ ((codes "np_load_avg", Amount 1749999) ∷ []) ∷ ((codes "np_load_avg", Amount 1750000) ∷ []) ∷ ((codes "mem_free", Amount 101) ∷ []) ∷ ((codes "mem_free", Amount 100) ∷ [])
    ∷ ((codes "np_load_avg", Word (codes "9")) ∷ []) ∷ [])
    ≡ false ∷ false ∷ true ∷ false ∷ true ∷ false ∷ []
unfolding reporting runs
reached_or_not = refl

-- -q: queue, queue@host, queue@@group, each a pattern

unfoldable big_group : Cluster
big_group = record opening { groups = (codes "@big", codes "n1" ∷ codes "n2" ∷ []) ∷ (codes "@bad", codes "n1" ∷ codes "@none" ∷ []) ∷ [] }

asked_for_or_not : map (names_instance (expanded big_group) (instance (codes "long.q") (codes "n1")))
    (codes "long.q" ∷ codes "l*" ∷ codes "*@n1" ∷ codes "long.q@n[2-3]" ∷ codes "short.q@n1" ∷ codes "long.q@@big" ∷ codes "*@@b*" ∷ codes "*@@bad" ∷ codes "*@@none" ∷ codes "long.q@big" ∷ [])
    ≡ true ∷ true ∷ true ∷ false ∷ false ∷ true ∷ true ∷ false ∷ false ∷ false ∷ []
unfolding big_group runs
asked_for_or_not = refl

-- projects: a queue for p but not q, one against q, one for none

abbrev project_queue : List (List ℕ) → List (List ℕ) → QueueRow
project_queue lists xlists = record (local_queue 1) { projects = plain_attr lists; xprojects = plain_attr xlists }

unfoldable projects : Cluster
projects = record opening {
  queues = (codes "a.q", project_queue (codes "p" ∷ codes "q" ∷ []) (codes "q" ∷ [])) ∷ (codes "b.q", project_queue [] (codes "q" ∷ [])) ∷ [];
}

abbrev open_to_project : List ℕ → List Bool
open_to_project name = map (λ queue. is_open projects (expanded projects) (record (job 1 (codes "ann")) { project = name }) (instance queue (codes "local"))) (codes "a.q" ∷ codes "b.q" ∷ [])

with_and_without_a_project : map open_to_project (codes "p" ∷ codes "q" ∷ codes "r" ∷ [] ∷ []) ≡ (true ∷ true ∷ []) ∷ (false ∷ false ∷ []) ∷ (false ∷ true ∷ []) ∷ (false ∷ true ∷ []) ∷ []
unfolding projects runs
with_and_without_a_project = refl

-- hosts are tried in the order of their first instance, though it is closed: h2 before h1
unfoldable closed_first : Cluster
closed_first = record opening {
  hosts = bare_hosts (codes "h1" ∷ codes "h2" ∷ []);
  queues = (codes "a.q", queue_on (codes "h2" ∷ []) 1)
      ∷ (codes "b.q", for_pe (codes "e") (record (both_queue 2) { seq_no = record { plain = 1; overrides = (codes "h2", 2) ∷ [] } }))
      ∷ [];
  pes = (codes "e", pe PeSlots) ∷ [];
  sched = record default_sched { sort = Seqno };
  jobs = (1, with_pe (codes "e") 2 2 (job 1 (codes "ann"))) ∷ [];
}

host_of_a_closed_instance_first : run_of closed_first (task 1 1 ∷ []) 0 ≡ start 1 (task 1 1) (slots_of (codes "b.q") (codes "h2") 2 ∷ []) ∷ []
unfolding closed_first runs
host_of_a_closed_instance_first = refl

-- the bound on running tasks of a user: job 1 of ann runs, and one more may
unfoldable bounded : ℕ → Cluster
bounded most = record opening {
  next_serial = 2;
  queues = all_q (local_queue 9);
  sched = record default_sched { maxujobs = most };
  jobs = (1, record (job 1 (codes "ann")) { running = since 1 1 0 ∷ [] }) ∷ of_ann 2 [] ∷ of_ann 3 [] ∷ (4, job 4 (codes "bob")) ∷ [];
}

two_of_each_user : run_of (bounded 2) (task 2 1 ∷ task 3 1 ∷ task 4 1 ∷ []) 5 ≡ start 2 (task 2 1) (local 1) ∷ Skip (task 3 1) ∷ start 3 (task 4 1) (local 1) ∷ []
unfolding bounded runs
two_of_each_user = refl

no_bound : run_of (bounded 0) (task 2 1 ∷ task 3 1 ∷ task 4 1 ∷ []) 5 ≡ start 2 (task 2 1) (local 1) ∷ start 3 (task 3 1) (local 1) ∷ start 4 (task 4 1) (local 1) ∷ []
unfolding bounded runs
no_bound = refl

-- the last number, and a task whose job isn't there
at_the_last_number : run_of (record (bounded 0) { next_serial = 2 ^ 48 - 1 }) (task 9 1 ∷ task 2 1 ∷ task 3 1 ∷ []) 5 ≡ Skip (task 9 1) ∷ start (2 ^ 48 - 1) (task 2 1) (local 1) ∷ Skip (task 3 1) ∷ []
unfolding bounded runs
at_the_last_number = refl

-- durations: h_rt, s_rt, both, none, nothing
durations : map (λ asked. duration_of opening (asking asked (job 1 (codes "ann"))))
    (((codes "h_rt", Amount 60) ∷ []) ∷ ((codes "s_rt", Amount 50) ∷ []) ∷ ((codes "h_rt", Amount 60) ∷ (codes "s_rt", Amount 70) ∷ []) ∷ [] ∷ ((codes "h_rt", Amount 0) ∷ []) ∷ [])
    ≡ 60 ∷ 50 ∷ 60 ∷ (2 ^ 48 - 1) ∷ 1 ∷ []
unfolding runs
durations = refl

-- what is booked at 50 of a task since 0: for 10 seconds, for 60, for ever
booked_at_50 : map (λ seconds. map (λ (b : Booking). b.until) (base_bookings (record opening { jobs = (1, record (lasting seconds (job 1 (codes "ann"))) { running = since 1 1 0 ∷ [] }) ∷ [] }) (expanded opening) 50))
    (10 ∷ 60 ∷ (2 ^ 48 - 1) ∷ [])
    ≡ (51 ∷ []) ∷ (60 ∷ []) ∷ (2 ^ 63 ∷ []) ∷ []
unfolding runs
booked_at_50 = refl

-- an instance that isn't there, and a window without a moment
closed_and_empty : map (λ from. are_admissible (bounded 0) (expanded (bounded 0)) (job 1 (codes "ann")) [] from (local 10)) (5 ∷ 2 ^ 63 ∷ []) ≡ false ∷ true ∷ []
unfolding bounded runs are_admissible
closed_and_empty = refl

no_such_instance : are_admissible (bounded 0) (expanded (bounded 0)) (job 1 (codes "ann")) [] (2 ^ 63) (one_slot (codes "no.q") (codes "local")) ≡ false
unfolding bounded runs are_admissible
no_such_instance = refl
