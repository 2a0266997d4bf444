-- Queues: attributes at a host, instances, resolution by level (queue_conf).
use Rattle.std.specs.Prelude.{ℕ, ◌&&◌, if◌then◌else◌, List, [], find, fold, flat_map, Option, Some, None, option_map, option_and_then, codes}
use Rattle.std.specs.Map.{values_of}
use Rattle.std.specs.Option.{option_or}
use Rattle.ge_collections.specs.Keyed.{text_eq, at_text, put_text}
use Rattle.ge_model_rows.specs.ClusterRows.{Cluster}
use Rattle.ge_model_rows.specs.HostRows.{HostRow, Groups, InstanceId}
use Rattle.ge_model_rows.specs.QueueRows.{QueueRow, Attr}
use Rattle.ge_model_rows.specs.ValueRows.{Value, Amount, Word}
use Rattle.ge_model_rows.specs.Groups.{is_group, group_has, hostlist_hosts}

module _ {T : Type 0} where
  -- the first override of an attribute that is written for a host
  abbrev pub host_override : Attr T → List ℕ → Option (List ℕ × T)
  host_override attr host = find (λ o. text_eq host o.0) attr.overrides

  -- the first override of an attribute that is written for a group with a host
  abbrev pub group_override : Attr T → Groups → List ℕ → Option (List ℕ × T)
  group_override attr groups host = find (λ o. is_group o.0 && group_has groups o.0 host) attr.overrides

  -- an attribute at a host: its first override for the host, else its first override for a group with the host, else the plain value (queue_conf)
  abbrev pub attr_at : Attr T → Groups → List ℕ → T
  attr_at attr groups host =
      elim (host_override attr host) [
        | Some o ↦ o.1
        | None ↦ elim (group_override attr groups host) [ Some o ↦ o.1 | None ↦ attr.plain ]
      ]

-- how many slots a queue has at a host
abbrev pub slots_at : QueueRow → Groups → List ℕ → ℕ
slots_at queue groups host = attr_at queue.slots groups host

-- the limit of a queue at a host, of a name that is one of its limits: queue, groups, host, name
abbrev pub limit_at : QueueRow → Groups → List ℕ → List ℕ → Option ℕ
limit_at queue groups host name = option_map (λ limit. attr_at limit groups host) (at_text queue.limits name)

-- the instances of a queue by name of host, with one for a host more, unless it is there
abbrev pub with_host : List ℕ → List (List ℕ × InstanceId) → List ℕ → List (List ℕ × InstanceId)
with_host queue instances host = put_text instances host (record { queue = queue; host = host })

-- the instances of one queue, by name of host
abbrev pub queue_instances : Groups → List ℕ × QueueRow → List InstanceId
queue_instances groups queue = values_of (fold (with_host queue.0) [] (hostlist_hosts groups queue.1.hosts))

-- the queue instances, by name of queue, then of host
unfoldable pub instances_of : Cluster → Groups → List InstanceId
instances_of c groups = flat_map (queue_instances groups) c.queues

-- what an instance is called: the names of its queue and of its host
abbrev pub called : InstanceId → List ℕ → Option Value
called at name =
    if text_eq name (codes "qname") then Some (Word at.queue)
    else (if text_eq name (codes "hostname") then Some (Word at.host) else None)

-- what a queue gives a name at one of its hosts: complex_values, then limits, then what the instance is called
abbrev pub queue_value : Groups → InstanceId → List ℕ → QueueRow → Option Value
queue_value groups at name queue =
    option_or (at_text (attr_at queue.values groups at.host) name)
    (option_or (option_map Amount (limit_at queue groups at.host name)) (called at name))

-- what a host gives a name: complex_values, then its load report
abbrev pub row_value : List ℕ → HostRow → Option Value
row_value name row = option_or (at_text row.values name) (at_text row.load name)

-- the same of the host with a name, if it is there
abbrev pub host_value : Cluster → List ℕ → List ℕ → Option Value
host_value c name host = option_and_then (row_value name) (at_text c.hosts host)

-- a value that isn't a consumable, from the first level that has it: instance, host and its load report, `global`
unfoldable pub resolved : Cluster → Groups → InstanceId → List ℕ → Option Value
resolved c groups at name =
    option_or (option_and_then (queue_value groups at name) (at_text c.queues at.queue))
    (option_or (host_value c name at.host) (host_value c name (codes "global")))
