-- Jobs, tasks, complexes, hosts, queues and clusters for the worked rows of this crate and of those above.
use Rattle.std.specs.Prelude.{ℕ, ◌*◌, ◌^◌, true, false, codes, pos, List, [], ◌∷◌, map, fold, Some, None}
use Rattle.ge_collections.specs.Keyed.{put_text}
use Rattle.ge_model_rows.specs.AccountRows.{Line}
use Rattle.ge_model_rows.specs.ClusterRows.{Cluster, opening_cluster, default_queue, default_sched, bare_host, plain_attr}
use Rattle.ge_model_rows.specs.EntryRows.{Entry, Change, Patch}
use Rattle.ge_model_rows.specs.HostRows.{HostRow, InstanceId}
use Rattle.ge_model_rows.specs.JobRows.{Job, Running, Grant, Advance}
use Rattle.ge_model_rows.specs.PeRows.{PeRow, Allocation, Min}
use Rattle.ge_model_rows.specs.QueueRows.{QueueRow}
use Rattle.ge_model_rows.specs.ScheduleRows.{Start, Prio}
use Rattle.ge_model_rows.specs.TaskRows.{TaskSpan, TaskId}
use Rattle.ge_model_rows.specs.ValueRows.{Value, Amount, Flag, Kind, Relop, Requestable, Consumable, ComplexDef}
use Rattle.ge_model_rows.specs.Complexes.{opening, opening_complexes}

-- ---- jobs

abbrev pub span : ℕ → ℕ → ℕ → TaskSpan
span first last step = record { first = first; last = last; step = step }

-- a job of a user, in a project or in none, that was submitted at 10 and asks for nothing; its one task waits
abbrev pub some_job : ℕ → List ℕ → List ℕ → List ℕ → Job
some_job number name owner project = record {
  number = number;
  name = name;
  owner = owner;
  group = codes "staff";
  account = codes "sge";
  submitted = 10;
  priority = pos 0;
  share = 0;
  project = project;
  reserve = false;
  not_before = 0;
  deadline = 0;
  request = record { asked = []; queues = []; pe = None };
  array = false;
  span = span 1 1 1;
  queued = span 1 1 1 ∷ [];
  broken = [];
  running = [];
  hold = 0;
  after = [];
  after_each = [];
  oticket = 0;
  words = codes "x" ∷ [];
  script = [];
  advance = 0;
}

-- one of ann's that was submitted at 0
abbrev pub plain_job : ℕ → Job
plain_job number = record (some_job number (codes "a") (codes "ann") []) { submitted = 0 }

-- the same as an array with all its tasks waiting
abbrev pub array_job : ℕ → TaskSpan → Job
array_job number range = record (some_job number (codes "a") (codes "ann") []) {
  submitted = 0;
  array = true;
  span = range;
  queued = range ∷ [];
}

-- a job with requests
abbrev pub asking : List (List ℕ × Value) → Job → Job
asking asked j = record j { request = record { asked = asked; queues = j.request.queues; pe = j.request.pe } }

-- a job that asks for so many seconds
abbrev pub lasting : ℕ → Job → Job
lasting seconds j = asking ((codes "h_rt", Amount seconds) ∷ []) j

abbrev pub in_queues : List (List ℕ) → Job → Job
in_queues queues j = record j { request = record { asked = j.request.asked; queues = queues; pe = j.request.pe } }

abbrev pub with_pe : List ℕ → ℕ → ℕ → Job → Job
with_pe name low high j = record j {
  request = record {
    asked = j.request.asked;
    queues = j.request.queues;
    pe = Some (record { name = name; low = low; high = high });
  };
}

abbrev pub prio : ℕ → ℕ → ℕ → ℕ → ℕ → Prio
prio number np nu nt total = record { job = number; np = np; nu = nu; nt = nt; total = total }

-- ---- tasks that run

abbrev pub task : ℕ → ℕ → TaskId
task number n = record { job = number; task = n }

abbrev pub instance : List ℕ → List ℕ → InstanceId
instance queue host = record { queue = queue; host = host }

abbrev pub slots_of : List ℕ → List ℕ → ℕ → Grant
slots_of queue host n = record { at = instance queue host; slots = n }

-- one slot
abbrev pub one_slot : List ℕ → List ℕ → List Grant
one_slot queue host = slots_of queue host 1 ∷ []

-- the opening cluster's queue instance
abbrev pub all_at_local : InstanceId
all_at_local = instance (codes "all.q") (codes "local")

-- slots of it
abbrev pub local : ℕ → List Grant
local n = record { at = all_at_local; slots = n } ∷ []

-- slots of a queue p at h1
abbrev pub first_host : ℕ → List Grant
first_host n = slots_of (codes "p") (codes "h1") n ∷ []

-- the same, and behind them slots at h2
abbrev pub both_hosts : ℕ → ℕ → List Grant
both_hosts n m = slots_of (codes "p") (codes "h1") n ∷ slots_of (codes "p") (codes "h2") m ∷ []

-- a task that runs with a serial since a moment, on these grants
abbrev pub running : ℕ → ℕ → List Grant → Running
running serial moment grants = record { serial = serial; start = moment; grants = grants; deleting = false }

-- one on a slot of all.q at local
abbrev pub on_local : ℕ → ℕ → Running
on_local serial moment = running serial moment (local 1)

-- the same with its number
abbrev pub since : ℕ → ℕ → ℕ → ℕ × Running
since number serial moment = (number, on_local serial moment)

-- the same, marked for deletion
abbrev pub dying : ℕ → ℕ → ℕ → ℕ × Running
dying number serial moment = (number, record (on_local serial moment) { deleting = true })

-- the start of a task of a job
abbrev pub start : ℕ → ℕ → ℕ → Start
start number n serial = record { task = task number n; serial = serial; grants = local 1 }

-- the line of a task of an array job that started at a moment and ended at another one
abbrev pub line : ℕ → ℕ → ℕ → ℕ → ℕ → Line
line number n started ended exit = record {
  queue = codes "all.q";
  host = codes "local";
  group = codes "staff";
  owner = codes "ann";
  name = codes "a";
  job = number;
  account = codes "sge";
  priority = pos 0;
  submitted = 0;
  start = started;
  end = ended;
  failed = 0;
  exit = exit;
  project = [];
  pe = [];
  slots = 1;
  task = n;
  cpu = 0;
  mem = 0;
  io = 0;
}

-- ---- complexes and their values

-- one that counts for no urgency, by its shortcut
abbrev pub complex : List ℕ → Kind → Relop → Requestable → Consumable → Value → ComplexDef
complex shortcut kind relop asked consumed fallback = record {
  shortcut = shortcut;
  kind = kind;
  relop = relop;
  requestable = asked;
  consumable = consumed;
  fallback = fallback;
  urgency = 0;
}

-- a licence, with what jobs use of it that don't ask
abbrev pub licence : Consumable → ℕ → ComplexDef
licence consumed fallback = complex (codes "l") Kind.Int Relop.Le Requestable.Yes consumed (Amount fallback)

abbrev pub licences : ℕ → List (List ℕ × Value)
licences n = (codes "lic", Amount n) ∷ []

abbrev pub gigabytes : ℕ → Value
gigabytes n = Amount (n * 2 ^ 30)

-- a memory that is consumed, a gigabyte of it by jobs that don't ask
abbrev pub memory : List ℕ → ComplexDef
memory shortcut = complex shortcut Kind.Memory Relop.Le Requestable.Yes Consumable.Yes (gigabytes 1)

-- a flag that keeps those away who don't ask for it
abbrev pub forced_flag : List ℕ → ComplexDef
forced_flag shortcut = complex shortcut Kind.Bool Relop.Eq Requestable.Forced Consumable.No (Flag false)

-- the opening table with these rows
abbrev pub complexes_with : List (List ℕ × ComplexDef) → List (List ℕ × ComplexDef)
complexes_with rows = fold (λ table row. put_text table row.0 row.1) opening_complexes rows

-- ---- what is configured and reserved

abbrev pub host : List (List ℕ × Value) → List (List ℕ × Value) → HostRow
host values load = record { values = values; load = load }

-- one that reports a load
abbrev pub loaded : Value → HostRow
loaded load = host [] ((codes "np_load_avg", load) ∷ [])

-- the opening cluster's hosts
abbrev pub two_hosts : HostRow → HostRow → List (List ℕ × HostRow)
two_hosts global local = (codes "global", global) ∷ (codes "local", local) ∷ []

-- `global` and hosts of which nothing is known
abbrev pub bare_hosts : List (List ℕ) → List (List ℕ × HostRow)
bare_hosts names = map (λ name. (name, bare_host)) (codes "global" ∷ names)

-- a queue on these hosts, with so many slots on each
abbrev pub queue_on : List (List ℕ) → ℕ → QueueRow
queue_on hosts slots = record default_queue { hosts = hosts; slots = plain_attr slots }

abbrev pub local_queue : ℕ → QueueRow
local_queue slots = queue_on (codes "local" ∷ []) slots

-- one on h1 and h2
abbrev pub both_queue : ℕ → QueueRow
both_queue slots = queue_on (codes "h1" ∷ codes "h2" ∷ []) slots

-- a queue for the jobs of an environment too
abbrev pub for_pe : List ℕ → QueueRow → QueueRow
for_pe name queue = record queue { pes = plain_attr (name ∷ []) }

-- all.q alone
abbrev pub all_q : QueueRow → List (List ℕ × QueueRow)
all_q queue = (codes "all.q", queue) ∷ []

abbrev pub pe : Allocation → PeRow
pe rule = record { slots = 100; users = []; xusers = []; rule = rule; urgency_slots = Min }

-- an advance reservation of ann's that asks for nothing, from a moment until before another
abbrev pub some_advance : List ℕ → ℕ → ℕ → List Grant → Advance
some_advance name from until grants = record {
  name = name;
  owner = codes "ann";
  group = codes "staff";
  from = from;
  until = until;
  request = record { asked = []; queues = []; pe = None };
  grants = grants;
}

-- ---- clusters

-- the opening cluster with these jobs
unfoldable pub with_jobs : List (ℕ × Job) → Cluster
with_jobs jobs = record opening { jobs = jobs }

-- the same, where the next job is 9 and the next serial 9
unfoldable pub cluster : List (ℕ × Job) → Cluster
unfolding opening_cluster default_queue default_sched
cluster jobs = record opening_cluster { next_job = 9; next_serial = 9; jobs = jobs }

-- ---- entries

-- a patch that gives nothing
abbrev pub no_patch : Patch
no_patch = record {
  name = None;
  request = None;
  priority = None;
  share = None;
  project = None;
  reserve = None;
  not_before = None;
  deadline = None;
  account = None;
  after = None;
  after_each = None;
  oticket = None;
}

-- a change at a moment
abbrev pub at : ℕ → Change → Entry
at moment change = record { moment = moment; change = change }
