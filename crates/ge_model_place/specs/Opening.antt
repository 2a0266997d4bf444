-- Which instances are open to a job.
use Rattle.std.specs.Prelude.{ℕ, ◌==◌, Bool, true, false, not, ◌&&◌, ◌||◌, if◌then◌else◌, List, [], ◌∷◌, Option, Some, None, is_some, codes}
use Rattle.std.specs.List.{list_any, list_all}
use Rattle.ge_collections.specs.Keyed.{text_eq, at_text}
use Rattle.ge_model_rows.specs.Access.{may_use}
use Rattle.ge_model_rows.specs.Queues.{attr_at, resolved}
use Rattle.ge_model_text.specs.Pattern.{pattern_covers}
use Rattle.ge_model_rows.specs.Complexes.{complex_at, is_consumable}
use Rattle.ge_model_rows.specs.Pieces.{is_empty, before_byte, behind_byte, has_byte, is_one_of}
use Rattle.ge_model_rows.specs.Relops.{admits, holds_between}
use Rattle.ge_model_rows.specs.ClusterRows.{Cluster}
use Rattle.ge_model_rows.specs.HostRows.{HostRow, Groups, InstanceId}
use Rattle.ge_model_rows.specs.JobRows.{Job, PeRequest}
use Rattle.ge_model_rows.specs.PeRows.{PeRow}
use Rattle.ge_model_rows.specs.QueueRows.{QueueRow}
use Rattle.ge_model_rows.specs.ValueRows.{Value, Requestable, ComplexDef}

-- the resource that each queue has by itself: queue_conf, slots
abbrev pub slots_name : List ℕ
slots_name = codes "slots"

-- the host whose values hold for all: host_conf
abbrev pub global_name : List ℕ
global_name = codes "global"

-- whether a host is in a group whose name a pattern stands for
abbrev pub in_group_like : List ℕ → List ℕ → List ℕ × List (List ℕ) → Bool
in_group_like pattern host group = pattern_covers pattern group.0 && is_one_of host group.1

-- whether the part of a pattern behind its first @ names a host: a pattern of hosts, or of groups where it begins with @
abbrev pub names_place : Groups → List ℕ → List ℕ → Bool
names_place groups host [] = false
names_place groups host (b ∷ pattern) = if b == 64 then list_any (in_group_like (b ∷ pattern) host) groups.hosts else pattern_covers (b ∷ pattern) host

-- whether a pattern names an instance, as queue, queue@host or queue@@group: qsub, -q
abbrev pub names_instance : Groups → InstanceId → List ℕ → Bool
names_instance groups at pattern =
    pattern_covers (before_byte 64 pattern) at.queue && (not (has_byte 64 pattern) || names_place groups at.host (behind_byte 64 pattern))

-- whether an instance is one of those that a job asks for: qsub, -q
abbrev pub is_asked_for : Groups → Job → InstanceId → Bool
is_asked_for groups job at = is_empty job.request.queues || list_any (names_instance groups at) job.request.queues

-- whether there is the host
abbrev pub has_host : Cluster → InstanceId → Bool
has_host c at = is_some (at_text c.hosts at.host)

-- whether the owner may use the queue there: queue_conf, user_lists and xuser_lists
abbrev pub admits_owner : Cluster → Groups → Job → InstanceId → QueueRow → Bool
admits_owner c groups job at q = may_use c (attr_at q.users groups at.host) (attr_at q.xusers groups at.host) job.owner job.group

-- whether the queue takes a job of the project there, where it has one: queue_conf, projects and xprojects
abbrev pub admits_project : Groups → InstanceId → QueueRow → List ℕ → Bool
admits_project groups at q [] = true
admits_project groups at q (b ∷ name) =
    (is_empty (attr_at q.projects groups at.host) || is_one_of (b ∷ name) (attr_at q.projects groups at.host)) && not (is_one_of (b ∷ name) (attr_at q.xprojects groups at.host))

-- a queue for projects takes no job without one: queue_conf, projects
abbrev pub admits_no_project : Groups → InstanceId → QueueRow → List ℕ → Bool
admits_no_project groups at q [] = is_empty (attr_at q.projects groups at.host)
admits_no_project groups at q (b ∷ name) = true

abbrev pub pe_may : Cluster → Job → Option PeRow → Bool
pe_may c job None = false
pe_may c job (Some pe) = may_use c pe.users pe.xusers job.owner job.group

-- whether the queue has the job's PE there, and the PE takes the owner: queue_conf, pe_list; sge_pe
abbrev pub admits_pe : Cluster → Groups → Job → InstanceId → QueueRow → Option PeRequest → Bool
admits_pe c groups job at q None = true
admits_pe c groups job at q (Some request) = is_one_of request.name (attr_at q.pes groups at.host) && pe_may c job (at_text c.pes request.name)

abbrev pub is_admitted : Value → Option ComplexDef → Option Value → Bool
is_admitted asked None there = false
is_admitted asked (Some complex) None = false
is_admitted asked (Some complex) (Some there) = admits complex asked there

-- whether an attribute that is no consumable is there, and admits what is asked: complex, relop
abbrev pub admits_value : Cluster → Groups → InstanceId → List ℕ × Value → Bool
admits_value c groups at asked = is_consumable c asked.0 || is_admitted asked.1 (complex_at c asked.0) (resolved c groups at asked.0)

-- whether a table of values names an attribute
abbrev pub has_value : List (List ℕ × Value) → List ℕ → Bool
has_value values name = is_some (at_text values name)

abbrev pub host_names : List ℕ → Option HostRow → Bool
host_names name None = false
host_names name (Some row) = has_value row.values name

-- whether the values of the queue there, of its host or of the host of all name an attribute: complex_values; each queue has slots
abbrev pub is_configured : Cluster → Groups → InstanceId → QueueRow → List ℕ → Bool
is_configured c groups at q name =
    text_eq name slots_name || has_value (attr_at q.values groups at.host) name || host_names name (at_text c.hosts at.host) || host_names name (at_text c.hosts global_name)

-- whether a consumable that is asked for is configured
abbrev pub consumes_what_is : Cluster → Groups → InstanceId → QueueRow → List ℕ × Value → Bool
consumes_what_is c groups at q asked = not (is_consumable c asked.0) || is_configured c groups at q asked.0

abbrev pub is_forced : Requestable → Bool
is_forced Requestable.No = false
is_forced Requestable.Yes = false
is_forced Requestable.Forced = true

-- whether a job asks for an attribute; it always asks for slots
abbrev pub asks_for : Job → List ℕ → Bool
asks_for job name = text_eq name slots_name || has_value job.request.asked name

-- whether a job asks for an attribute, where what has it is only for those who do: complex, requestable
abbrev pub meets_forced : Cluster → Groups → Job → InstanceId → QueueRow → List ℕ × ComplexDef → Bool
meets_forced c groups job at q complex = not (is_forced complex.1.requestable) || asks_for job complex.0 || not (is_configured c groups at q complex.0)

abbrev pub reaches : Value → Option ComplexDef → Option Value → Bool
reaches threshold None there = false
reaches threshold (Some complex) None = false
reaches threshold (Some complex) (Some there) = holds_between complex.kind complex.relop there threshold

abbrev pub reported_load : Option HostRow → List ℕ → Option Value
reported_load None name = None
reported_load (Some row) name = at_text row.load name

-- whether what the host reports reaches one threshold
abbrev pub reaches_one : Cluster → InstanceId → List ℕ × Value → Bool
reaches_one c at threshold = reaches threshold.1 (complex_at c threshold.0) (reported_load (at_text c.hosts at.host) threshold.0)

abbrev pub reaches_one_of : Cluster → Groups → InstanceId → Option QueueRow → Bool
reaches_one_of c groups at None = false
reaches_one_of c groups at (Some q) = list_any (reaches_one c at) (attr_at q.thresholds groups at.host)

-- whether a load threshold of an instance is reached (queue_conf, load_thresholds)
unfoldable pub reaches_threshold : Cluster → Groups → InstanceId → Bool
reaches_threshold c groups at = reaches_one_of c groups at (at_text c.queues at.queue)

abbrev pub is_open_in : Cluster → Groups → Job → InstanceId → Option QueueRow → Bool
is_open_in c groups job at None = false
is_open_in c groups job at (Some q) =
    has_host c at
    && is_asked_for groups job at
    && admits_owner c groups job at q
    && admits_project groups at q job.project
    && admits_no_project groups at q job.project
    && admits_pe c groups job at q job.request.pe
    && list_all (admits_value c groups at) job.request.asked
    && list_all (consumes_what_is c groups at q) job.request.asked
    && list_all (meets_forced c groups job at q) c.complexes
    && not (reaches_threshold c groups at)

-- whether an instance is open to the tasks of a job
unfoldable pub is_open : Cluster → Groups → Job → InstanceId → Bool
is_open c groups job at = is_open_in c groups job at (at_text c.queues at.queue)
