-- A day: two runs over twelve jobs, four queue instances on three hosts, a consumable and a quota.
use Rattle.std.specs.Prelude.{◌≡◌, ℕ, true, List, [], ◌∷◌, codes, refl}
use Rattle.ge_collections.specs.Keyed.{put_text}
use Rattle.ge_model_rows.specs.ClusterRows.{Cluster, default_queue, bare_host, plain_attr}
use Rattle.ge_model_rows.specs.DecisionRows.{Skip}
use Rattle.ge_model_rows.specs.JobRows.{Job}
use Rattle.ge_model_rows.specs.PeRows.{PeSlots}
use Rattle.ge_model_rows.specs.QueueRows.{QueueRow}
use Rattle.ge_model_rows.specs.ValueRows.{Amount}
use Rattle.ge_model_rows.specs.Groups.{expanded}
use Rattle.ge_model_rows.specs.Complexes.{opening}
use Rattle.ge_model_place.specs.InstanceOrder.{instance_order}
use Rattle.ge_model_place.specs.Running.{run_of}
use Rattle.ge_model_jobs.proofs.Samples.{asking, lasting, in_queues, with_pe, task, instance, slots_of, one_slot, running, gigabytes, memory, complexes_with, host, for_pe, pe}
use Rattle.ge_model_place.proofs.Site.{runs, job, start, filter_of, user_rule, rule_set}

unfoldable long_queue : QueueRow
long_queue = for_pe (codes "smp") (record default_queue {
  hosts = codes "@big" ∷ codes "n3" ∷ [];
  slots = record { plain = 2; overrides = (codes "@big", 4) ∷ [] };
})

unfoldable short_queue : QueueRow
short_queue = record default_queue {
  hosts = codes "n3" ∷ [];
  seq_no = plain_attr 1;
  limits = put_text default_queue.limits (codes "h_rt") (plain_attr 3600);
}

-- the cluster of the day, with these jobs and the next serial
unfoldable day : List (ℕ × Job) → ℕ → Cluster
day jobs serial = record opening {
  next_serial = serial;
  complexes = complexes_with ((codes "mem", memory (codes "mem")) ∷ []);
  hosts = (codes "global", bare_host) ∷ (codes "local", bare_host)
      ∷ (codes "n1", host ((codes "mem", gigabytes 8) ∷ []) ((codes "np_load_avg", Amount 1000000) ∷ []))
      ∷ (codes "n2", host ((codes "mem", gigabytes 8) ∷ []) ((codes "np_load_avg", Amount 500000) ∷ []))
      ∷ (codes "n3", host ((codes "mem", gigabytes 4) ∷ []) ((codes "np_load_avg", Amount 100000) ∷ []))
      ∷ [];
  groups = (codes "@big", codes "n1" ∷ codes "n2" ∷ []) ∷ [];
  queues = (codes "long.q", long_queue) ∷ (codes "short.q", short_queue) ∷ [];
  pes = (codes "smp", pe PeSlots) ∷ [];
  quotas = (codes "per_user", rule_set (user_rule (filter_of true (codes "*" ∷ []) []) ((codes "slots", 6) ∷ []) ∷ [])) ∷ [];
  jobs = jobs;
}

unfoldable prep : ℕ × Job
prep = (1, lasting 600 (job 1 (codes "ann")))

unfoldable sim : ℕ × Job
sim = (2, asking ((codes "h_rt", Amount 7200) ∷ (codes "mem", gigabytes 2) ∷ []) (job 2 (codes "ann")))

unfoldable mpi : ℕ × Job
mpi = (4, with_pe (codes "smp") 3 8 (lasting 3600 (job 4 (codes "bob"))))

unfoldable big : ℕ × Job
big = (5, asking ((codes "mem", gigabytes 6) ∷ []) (job 5 (codes "bob")))

unfoldable small : ℕ × Job
small = (6, lasting 1800 (job 6 (codes "bob")))

unfoldable huge : ℕ × Job
huge = (7, asking ((codes "mem", gigabytes 16) ∷ []) (job 7 (codes "cy")))

unfoldable quick : ℕ × Job
quick = (8, in_queues (codes "short.q" ∷ []) (job 8 (codes "cy")))

unfoldable low : ℕ × Job
low = (9, job 9 (codes "cy"))

unfoldable last : ℕ × Job
last = (12, job 12 (codes "cy"))

unfoldable morning : Cluster
morning = day (prep ∷ sim ∷ mpi ∷ big ∷ small ∷ huge ∷ quick ∷ low ∷ last ∷ []) 1

by_load : instance_order morning (expanded morning) ≡ instance (codes "long.q") (codes "n3") ∷ instance (codes "short.q") (codes "n3") ∷ instance (codes "long.q") (codes "n2") ∷ instance (codes "long.q") (codes "n1") ∷ []
unfolding morning day long_queue short_queue runs
by_load = refl

first_run : run_of morning
    (task 4 1 ∷ task 1 1 ∷ task 2 1 ∷ task 2 2 ∷ task 2 3 ∷ task 2 4 ∷ task 5 1 ∷ task 6 1 ∷ task 7 1 ∷ task 8 1 ∷ task 12 1 ∷ task 9 1 ∷ []) 20
    ≡ start 1 (task 4 1) (slots_of (codes "long.q") (codes "n2") 4 ∷ [])
    ∷ start 2 (task 1 1) (one_slot (codes "long.q") (codes "n3"))
    ∷ start 3 (task 2 1) (one_slot (codes "long.q") (codes "n3"))
    ∷ start 4 (task 2 2) (one_slot (codes "long.q") (codes "n1"))
    ∷ start 5 (task 2 3) (one_slot (codes "long.q") (codes "n1"))
    ∷ start 6 (task 2 4) (one_slot (codes "long.q") (codes "n1"))
    ∷ Skip (task 5 1)
    ∷ start 7 (task 6 1) (one_slot (codes "short.q") (codes "n3"))
    ∷ Skip (task 7 1)
    ∷ Skip (task 8 1)
    ∷ start 8 (task 12 1) (one_slot (codes "long.q") (codes "n1"))
    ∷ Skip (task 9 1)
    ∷ []
unfolding morning day long_queue short_queue prep sim mpi big small huge quick low last runs
first_run = refl

-- the jobs after the first run at 20 and the end of job 1
unfoldable later : Cluster
later = day ((
  2,
  record (sim.1) {
    running = (1, running 3 20 (one_slot (codes "long.q") (codes "n3"))) ∷ (2, running 4 20 (one_slot (codes "long.q") (codes "n1")))
        ∷ (3, running 5 20 (one_slot (codes "long.q") (codes "n1"))) ∷ (4, running 6 20 (one_slot (codes "long.q") (codes "n1"))) ∷ [];
  },
)
    ∷ (4, record (mpi.1) { running = (1, running 1 20 (slots_of (codes "long.q") (codes "n2") 4 ∷ [])) ∷ [] })
    ∷ big
    ∷ (6, record (small.1) { running = (1, running 7 20 (one_slot (codes "short.q") (codes "n3"))) ∷ [] })
    ∷ huge ∷ quick ∷ low
    ∷ (12, record (last.1) { running = (1, running 8 20 (one_slot (codes "long.q") (codes "n1"))) ∷ [] })
    ∷ []) 9

second_run : run_of later (task 5 1 ∷ task 7 1 ∷ task 8 1 ∷ task 9 1 ∷ []) 700
    ≡ Skip (task 5 1) ∷ Skip (task 7 1) ∷ Skip (task 8 1) ∷ start 9 (task 9 1) (one_slot (codes "long.q") (codes "n3")) ∷ []
unfolding later day long_queue short_queue sim mpi big small huge quick low last runs
second_run = refl
