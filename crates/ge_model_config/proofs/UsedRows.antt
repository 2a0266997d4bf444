-- What is used, and what is there.
use Rattle.std.specs.Prelude.{◌≡◌, true, false, [], ◌∷◌, Some, map, codes, refl}
use Rattle.ge_model_rows.specs.ClusterRows.{Cluster}
use Rattle.ge_model_rows.specs.EntryRows.{ObjectKind}
use Rattle.ge_model_rows.specs.JobRows.{Job}
use Rattle.ge_model_rows.specs.ValueRows.{Amount}
use Rattle.ge_model_rows.specs.Complexes.{opening_complexes}
use Rattle.ge_model_jobs.proofs.Samples.{some_job, asking, with_pe, one_slot, running, some_advance}
use Rattle.ge_model_config.specs.Used.{is_used, is_there}
use Rattle.ge_model_config.proofs.Site.{site, with_body}

-- a job of a project that asks for an environment and a resource, with one task that runs in short.q on n4
unfoldable pub one_job : Job
one_job = asking ((codes "ver", Amount 5) ∷ []) (with_pe (codes "mpi") 1 1 (record (some_job 1 (codes "a") (codes "ann") (codes "lab")) {
  submitted = 0;
  queued = [];
  running = (1, running 1 0 (one_slot (codes "short.q") (codes "n4"))) ∷ [];
  words = [];
}))

-- the site with the job, a share node of a project, and further objects that nothing uses
unfoldable pub busy : Cluster
unfolding site with_body one_job
busy = record (with_body (with_body (with_body site (ObjectKind.Queue, codes "qname calm.q\nh_rt 9,[@all=8]\ncomplex_values NONE,[n2=gpu=1]"))
    (ObjectKind.Complexes, codes "ver v INT >= YES NO 0 0\nidle i INT >= YES NO 0 0\nhot o DOUBLE >= YES NO 0 0")) (ObjectKind.Quota, codes "{\nname nodes\nlimit users !@old hosts @few,!@most to slots=1\n}")) {
      jobs = (1, one_job) ∷ [];
      shares = (0, record { name = codes "Root"; project = false; shares = 1; children = 1 ∷ [] })
          ∷ (1, record { name = codes "shop"; project = true; shares = 1; children = [] }) ∷ [];
    }

-- a queue with a running task
queues_used : map (is_used busy ObjectKind.Queue) (codes "short.q" ∷ codes "long.q" ∷ codes "calm.q" ∷ []) ≡ true ∷ false ∷ false ∷ []
unfolding is_used busy
queues_used = refl

-- global, in a grant, in a hostlist, in a group alone, in an override alone, nowhere
hosts_used : map (is_used busy ObjectKind.Host) (codes "global" ∷ codes "n4" ∷ codes "local" ∷ codes "n1" ∷ codes "n2" ∷ codes "n9" ∷ []) ≡ true ∷ true ∷ true ∷ true ∷ true ∷ false ∷ []
unfolding is_used busy
hosts_used = refl

-- in a hostlist, in the override of a limit, in a rule plain and behind !, nowhere
groups_used : map (is_used busy ObjectKind.Group) (codes "@big" ∷ codes "@all" ∷ codes "@few" ∷ codes "@most" ∷ codes "@none" ∷ []) ≡ true ∷ true ∷ true ∷ true ∷ false ∷ []
unfolding is_used busy
groups_used = refl

-- in a pe_list, in a live job, nowhere
environments_used : map (is_used busy ObjectKind.Pe) (codes "smp" ∷ codes "mpi" ∷ codes "idle" ∷ []) ≡ true ∷ true ∷ false ∷ []
unfolding is_used busy
environments_used = refl

-- in lists and rules, in a rule behind !, as a host group alone, nowhere
sets_used : map (is_used busy ObjectKind.Set) (codes "dev" ∷ codes "old" ∷ codes "few" ∷ codes "idle" ∷ []) ≡ true ∷ true ∷ false ∷ false ∷ []
unfolding is_used busy
sets_used = refl

-- in an override of a queue's list, in a live job, in the share tree as a project, in the share tree as no project
projects_used : map (is_used busy ObjectKind.Project) (codes "web" ∷ codes "lab" ∷ codes "shop" ∷ codes "Root" ∷ []) ≡ true ∷ true ∷ true ∷ false ∷ []
unfolding is_used busy
projects_used = refl

-- of the opening table, in values and rules, in an override, in a live job, nowhere
complexes_used : map (is_used busy ObjectKind.Complexes) (codes "arch" ∷ codes "mem" ∷ codes "gpu" ∷ codes "ver" ∷ codes "idle" ∷ []) ≡ true ∷ true ∷ true ∷ true ∷ false ∷ []
unfolding is_used busy opening_complexes
complexes_used = refl

-- an advance reservation alone uses the queues and hosts of its grants, its environment and its attributes
unfoldable pub reserved : Cluster
unfolding busy
reserved = record busy {
  jobs = [];
  advances = (
    1,
    record (some_advance (codes "ar") 5 9 (one_slot (codes "short.q") (codes "n4"))) {
      request = record { asked = (codes "ver", Amount 5) ∷ []; queues = []; pe = Some (record { name = codes "mpi"; low = 1; high = 1 }) };
    },
  ) ∷ [];
}

used_in_advance : is_used reserved ObjectKind.Queue (codes "short.q") ∷ is_used reserved ObjectKind.Host (codes "n4") ∷ is_used reserved ObjectKind.Pe (codes "mpi") ∷ is_used reserved ObjectKind.Complexes (codes "ver") ∷ []
    ≡ true ∷ true ∷ true ∷ true ∷ []
unfolding is_used reserved opening_complexes
used_in_advance = refl

unused_in_advance : is_used reserved ObjectKind.Queue (codes "long.q") ∷ is_used reserved ObjectKind.Host (codes "n9") ∷ is_used reserved ObjectKind.Pe (codes "idle") ∷ is_used reserved ObjectKind.Complexes (codes "idle") ∷ is_used reserved ObjectKind.Project (codes "lab") ∷ []
    ≡ false ∷ false ∷ false ∷ false ∷ false ∷ []
unfolding is_used reserved opening_complexes
unused_in_advance = refl

-- users, rule sets and the share tree
never_used : is_used busy ObjectKind.User (codes "ann") ∷ is_used busy ObjectKind.Quota (codes "per_user") ∷ is_used busy ObjectKind.Shares [] ∷ [] ≡ false ∷ false ∷ false ∷ []
unfolding is_used busy
never_used = refl

there : is_there busy ObjectKind.Queue (codes "calm.q") ∷ is_there busy ObjectKind.Queue (codes "calm") ∷ is_there busy ObjectKind.Managers (codes "root") ∷ is_there busy ObjectKind.Managers (codes "ann") ∷ is_there busy ObjectKind.Sched [] ∷ []
    ≡ true ∷ false ∷ true ∷ false ∷ true ∷ []
unfolding is_there busy
there = refl
