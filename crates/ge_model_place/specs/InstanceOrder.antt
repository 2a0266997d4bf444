-- The order of instances.
use Rattle.std.specs.Prelude.{ℕ, List, [], fold, Option, Some, None}
use Rattle.std.specs.BTreeMap.{insert_entry}
use Rattle.std.specs.Map.{values_of}
use Rattle.std.specs.Ordering.{ordering_then, nat_cmp}
use Rattle.std.specs.declared.cmp.Ordering.{Ordering}
use Rattle.ge_collections.specs.Keyed.{text_cmp, at_text}
use Rattle.ge_model_rows.specs.Queues.{attr_at, instances_of}
use Rattle.ge_model_rows.specs.ClusterRows.{Cluster}
use Rattle.ge_model_rows.specs.HostRows.{Groups, InstanceId}
use Rattle.ge_model_rows.specs.QueueRows.{QueueRow}
use Rattle.ge_model_rows.specs.SettingRows.{SortMethod, Load, Seqno}
use Rattle.ge_model_rows.specs.ValueRows.{Value, Amount, Flag, Word, infinity}
use Rattle.ge_model_place.specs.Opening.{reported_load}

-- a report that is no amount counts as none
abbrev pub amount_reported : Option Value → Option ℕ
amount_reported None = None
amount_reported (Some (Amount amount)) = Some amount
amount_reported (Some (Flag flag)) = None
amount_reported (Some (Word word)) = None

-- the amount that a host reports of the load formula, if it is an amount
abbrev pub load_at : Cluster → List ℕ → Option ℕ
load_at c host = amount_reported (reported_load (at_text c.hosts host) c.sched.load_formula)

-- a host that reports none is as loaded as can be
abbrev pub load_or_most : Option ℕ → ℕ
load_or_most None = infinity
load_or_most (Some load) = load

abbrev pub seq_no_in : Groups → List ℕ → Option QueueRow → ℕ
seq_no_in groups host None = 0
seq_no_in groups host (Some q) = attr_at q.seq_no groups host

-- the sequence number of an instance: queue_conf, seq_no
abbrev pub seq_no_at : Cluster → Groups → InstanceId → ℕ
seq_no_at c groups at = seq_no_in groups at.host (at_text c.queues at.queue)

-- where an instance stands: two numbers, the queue and the host
abbrev pub Rank : Type 0
Rank = ℕ × ℕ × List ℕ × List ℕ

abbrev pub instance_rank_cmp : Rank → Rank → Ordering
instance_rank_cmp a b = ordering_then (nat_cmp a.0 b.0) (ordering_then (nat_cmp a.1 b.1) (ordering_then (text_cmp a.2 b.2) (text_cmp a.3 b.3)))

-- by load and then by sequence number, or the other way round: sched_conf, queue_sort_method
abbrev pub rank_by : SortMethod → ℕ → ℕ → InstanceId → Rank
rank_by Load load seq_no at = (load, seq_no, at.queue, at.host)
rank_by Seqno load seq_no at = (seq_no, load, at.queue, at.host)

abbrev pub instance_rank : Cluster → Groups → InstanceId → Rank
instance_rank c groups at = rank_by c.sched.sort (load_or_most (load_at c at.host)) (seq_no_at c groups at) at

abbrev pub with_ranked : Cluster → Groups → List (Rank × InstanceId) → InstanceId → List (Rank × InstanceId)
with_ranked c groups ranked at = insert_entry instance_rank_cmp ranked (instance_rank c groups at) at

-- the instances in the order in which a run tries them
unfoldable pub instance_order : Cluster → Groups → List InstanceId
instance_order c groups = values_of (fold (with_ranked c groups) [] (instances_of c groups))
