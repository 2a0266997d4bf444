-- What bodies without attributes give, and the order of printed attributes, over any cluster.
use Rattle.std.specs.Prelude.{◌≡◌, ℕ, List, [], ◌∷◌, map, codes, refl}
use Rattle.ge_model_rows.specs.ClusterRows.{Cluster, default_queue, default_sched}
use Rattle.ge_model_rows.specs.EntryRows.{Item, ObjectKind}
use Rattle.ge_model_rows.specs.PeRows.{PeRow}
use Rattle.ge_model_rows.specs.PeopleRows.{UserRow, ProjectRow}
use Rattle.ge_model_rows.specs.QueueRows.{QueueRow}
use Rattle.ge_model_rows.specs.SettingRows.{Sched}
use Rattle.ge_model_rows.specs.ValueRows.{Value}
use Rattle.ge_model_rows.specs.Pieces.{before_byte}
use Rattle.ge_model_grammar.specs.Attributes.{attribute_names}
use Rattle.ge_model_config.specs.Queues.{queue_read}
use Rattle.ge_model_config.specs.Settings.{sched_item}
use Rattle.ge_model_config.specs.Printing.{printed}

-- a queue of which a body gives the name alone is the default one, whatever the cluster
default_by_name : (c : Cluster) (name : List ℕ) → queue_read c ((codes "qname", name) ∷ []) ≡ (default_queue, [])
unfolding queue_read default_queue
default_by_name c name = refl

-- settings of an empty body are the default ones
default_settings : (c : Cluster) → sched_item c [] ≡ (Item.Sched default_sched, [])
unfolding sched_item default_sched
default_settings c = refl

-- what is printed has the attributes that a body may have, in their order
queue_in_order : (c : Cluster) (name : List ℕ) (q : QueueRow) → map (before_byte 32) (printed c (Item.Queue name q)) ≡ attribute_names ObjectKind.Queue
unfolding printed
queue_in_order c name q = refl

environment_in_order : (c : Cluster) (name : List ℕ) (pe : PeRow) → map (before_byte 32) (printed c (Item.Pe name pe)) ≡ attribute_names ObjectKind.Pe
unfolding printed
environment_in_order c name pe = refl

settings_in_order : (c : Cluster) (s : Sched) → map (before_byte 32) (printed c (Item.Sched s)) ≡ attribute_names ObjectKind.Sched
unfolding printed
settings_in_order c s = refl

host_in_order : (c : Cluster) (name : List ℕ) (values : List (List ℕ × Value)) → map (before_byte 32) (printed c (Item.Host name values)) ≡ attribute_names ObjectKind.Host
unfolding printed
host_in_order c name values = refl

group_in_order : (c : Cluster) (name : List ℕ) (hosts : List (List ℕ)) → map (before_byte 32) (printed c (Item.Group name hosts)) ≡ attribute_names ObjectKind.Group
unfolding printed
group_in_order c name hosts = refl

set_in_order : (c : Cluster) (name : List ℕ) (entries : List (List ℕ)) → map (before_byte 32) (printed c (Item.Set name entries)) ≡ attribute_names ObjectKind.Set
unfolding printed
set_in_order c name entries = refl

user_in_order : (c : Cluster) (name : List ℕ) (user : UserRow) → map (before_byte 32) (printed c (Item.User name user)) ≡ attribute_names ObjectKind.User
unfolding printed
user_in_order c name user = refl

project_in_order : (c : Cluster) (name : List ℕ) (project : ProjectRow) → map (before_byte 32) (printed c (Item.Project name project)) ≡ attribute_names ObjectKind.Project
unfolding printed
project_in_order c name project = refl
