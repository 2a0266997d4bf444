-- The cluster before the first command, and the values of attributes that a body leaves out.
use Rattle.std.specs.Prelude.{ℕ, ◌-◌, List, [], ◌∷◌, ◌++◌, fold, codes}
use Rattle.ge_collections.specs.Keyed.{put_text}
use Rattle.ge_limits.specs.Limits as limit
use Rattle.ge_rows.specs.declared.cluster.Cluster.{Cluster}
use Rattle.ge_rows.specs.declared.hosts.HostRow.{HostRow}
use Rattle.ge_rows.specs.declared.queues.Attr.{Attr}
use Rattle.ge_rows.specs.declared.queues.QueueRow.{QueueRow}
use Rattle.ge_rows.specs.declared.settings.Sched.{Sched}
use Rattle.ge_rows.specs.declared.settings.SortMethod.TheVariants.{Load}
use Rattle.ge_rows.specs.declared.values.Value.TheVariants.{Amount}
use Rattle.ge_model_rows.specs.OpeningComplexes.{time_limits, memory_limits, opening_complexes}

-- the amount that stands for INFINITY
abbrev pub infinity : ℕ
infinity = limit.amounts - 1

-- one, of a DOUBLE, in millionths
abbrev pub million : ℕ
million = 1000000

-- an attribute of a queue without overrides
abbrev pub plain_attr : {T : Type 0} → T → Attr T
plain_attr x = record { plain = x; overrides = [] }

-- the sixteen limits of a queue, in the order of queue_conf
abbrev pub limit_names : List (List ℕ)
limit_names = time_limits ++ memory_limits

-- these limits, each INFINITY, beside those that stand
abbrev pub with_limits : List (List ℕ × Attr ℕ) → List (List ℕ) → List (List ℕ × Attr ℕ)
with_limits limits names = fold (λ rows name. put_text rows name (plain_attr infinity)) limits names

-- the queue of a body that gives its name alone: queue_conf
unfoldable pub default_queue : QueueRow
default_queue = record {
  hosts = [];
  seq_no = plain_attr 0;
  thresholds = plain_attr ((codes "np_load_avg", Amount 1750000) ∷ []);
  pes = plain_attr [];
  users = plain_attr [];
  xusers = plain_attr [];
  projects = plain_attr [];
  xprojects = plain_attr [];
  values = plain_attr [];
  slots = plain_attr 1;
  limits = with_limits [] limit_names;
}

-- the settings of a body that gives none: sched_conf
unfoldable pub default_sched : Sched
default_sched = record {
  interval = 15;
  maxujobs = 0;
  sort = Load;
  load_formula = codes "np_load_avg";
  w_priority = million;
  w_urgency = 100000;
  w_ticket = 10000;
  w_waiting = 0;
  w_deadline = 3600000000000;
  functional = 0;
  share = 0;
  w_user = 250000;
  w_project = 250000;
  w_job = 250000;
  halftime = 168;
  max_reservation = 0;
  default_duration = infinity;
  u_cpu = million;
  u_mem = 0;
  u_io = 0;
  max_pending = 50;
}

-- a host with no values and no load report
abbrev pub bare_host : HostRow
bare_host = record { values = []; load = [] }

-- before the first command: the complexes, two hosts, one queue with two slots, and root as the manager
unfoldable pub opening_cluster : Cluster
opening_cluster = record {
  last = 0;
  last_run = 0;
  next_job = 1;
  next_serial = 1;
  complexes = opening_complexes;
  hosts = (codes "global", bare_host) ∷ (codes "local", bare_host) ∷ [];
  groups = [];
  queues = (codes "all.q", record default_queue { hosts = codes "local" ∷ []; slots = plain_attr 2 }) ∷ [];
  pes = [];
  quotas = [];
  sets = [];
  users = [];
  projects = [];
  shares = [];
  sched = default_sched;
  managers = codes "root" ∷ [];
  operators = [];
  jobs = [];
  usage = [];
  lines = [];
  next_advance = 1;
  advances = [];
}
