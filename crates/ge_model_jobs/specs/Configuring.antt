-- The cluster after what is configured changes, and after a load report: qconf, load.
use Rattle.std.specs.Prelude.{ℕ, ◌==◌, not, if◌then◌else◌, List, [], filter, fold, Option, Some, None}
use Rattle.std.specs.BTreeMap.{is_at}
use Rattle.ge_collections.specs.Changed.{change_value}
use Rattle.ge_collections.specs.Keyed.{text_cmp, text_eq, at_text, put_text, drop_text}
use Rattle.ge_model_rows.specs.ClusterRows.{Cluster}
use Rattle.ge_model_rows.specs.EntryRows.{Item, ObjectKind}
use Rattle.ge_model_rows.specs.HostRows.{HostRow}
use Rattle.ge_model_rows.specs.SettingRows.{Sched}
use Rattle.ge_model_rows.specs.ValueRows.{Value}
use Rattle.ge_model_jobs.specs.Usage.{converted}

-- what a host has reported, nothing where it isn't there
abbrev pub load_of : Option HostRow → List (List ℕ × Value)
load_of None = []
load_of (Some host) = host.load

-- the complex_values of a host are put; what it reported stays
abbrev pub with_host_values : Cluster → List ℕ → List (List ℕ × Value) → Cluster
with_host_values c name values = record c { hosts = put_text c.hosts name (record { values = values; load = load_of (at_text c.hosts name) }) }

-- the scheduler's settings are put: where the halftime changes, the usage is converted first
abbrev pub with_sched : ℕ → Cluster → Sched → Cluster
with_sched moment c sched = record c {
  sched = sched;
  usage = if sched.halftime == c.sched.halftime then c.usage else converted moment c.sched.halftime sched.halftime c.usage;
}

-- an object is added or replaced at a moment
unfoldable pub with_item : ℕ → Cluster → Item → Cluster
with_item moment c (Item.Complexes rows) = record c { complexes = rows }
with_item moment c (Item.Host name values) = with_host_values c name values
with_item moment c (Item.Group name members) = record c { groups = put_text c.groups name members }
with_item moment c (Item.Queue name row) = record c { queues = put_text c.queues name row }
with_item moment c (Item.Pe name row) = record c { pes = put_text c.pes name row }
with_item moment c (Item.Quota name row) = record c { quotas = put_text c.quotas name row }
with_item moment c (Item.Set name users) = record c { sets = put_text c.sets name users }
with_item moment c (Item.User name row) = record c { users = put_text c.users name row }
with_item moment c (Item.Project name row) = record c { projects = put_text c.projects name row }
with_item moment c (Item.Shares nodes) = record c { shares = nodes }
with_item moment c (Item.Sched sched) = with_sched moment c sched
with_item moment c (Item.Managers names) = record c { managers = names }
with_item moment c (Item.Operators names) = record c { operators = names }

-- names without one, wherever it stands
abbrev pub without_name : List ℕ → List (List ℕ) → List (List ℕ)
without_name name names = filter (λ other. not (text_eq other name)) names

-- an object is removed; the complexes and the settings are always there
unfoldable pub without_item : Cluster → ObjectKind → List ℕ → Cluster
without_item c ObjectKind.Complexes name = c
without_item c ObjectKind.Host name = record c { hosts = drop_text c.hosts name }
without_item c ObjectKind.Group name = record c { groups = drop_text c.groups name }
without_item c ObjectKind.Queue name = record c { queues = drop_text c.queues name }
without_item c ObjectKind.Pe name = record c { pes = drop_text c.pes name }
without_item c ObjectKind.Quota name = record c { quotas = drop_text c.quotas name }
without_item c ObjectKind.Set name = record c { sets = drop_text c.sets name }
without_item c ObjectKind.User name = record c { users = drop_text c.users name }
without_item c ObjectKind.Project name = record c { projects = drop_text c.projects name }
without_item c ObjectKind.Shares name = record c { shares = [] }
without_item c ObjectKind.Sched name = c
without_item c ObjectKind.Managers name = record c { managers = without_name name c.managers }
without_item c ObjectKind.Operators name = record c { operators = without_name name c.operators }

-- a host's report replaces the values that it names
abbrev pub with_load_report : List (List ℕ × Value) → HostRow → HostRow
with_load_report report host = record host { load = fold (λ load value. put_text load value.0 value.1) host.load report }

-- a host reports its load; one that isn't there changes nothing
unfoldable pub with_load : Cluster → List ℕ → List (List ℕ × Value) → Cluster
with_load c name report = record c { hosts = change_value (is_at (text_cmp name)) (with_load_report report) c.hosts }
