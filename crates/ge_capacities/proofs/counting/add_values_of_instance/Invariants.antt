use Rattle.std.proofs.Common.{◌≡◌, fold}
use Rattle.std.specs.List.{AllByRecursion}
use Rattle.std.specs.Map.{keys_of}
use Rattle.ge_model_rows.specs.Queues.{attr_at}
use Rattle.ge_capacities.specs.Counts.{all_counted}
use Rattle.ge_capacities.specs.Found.{HasOtherAmount, with_instance_value}
use Rattle.ge_capacities.proofs.counting.add_values_of_instance.Given as goal

abbrev pub invariant-loop-name : goal.invariant-loop-name
invariant-loop-name l = record {
  counted : fold (with_instance_value l.cluster l.groups l.job l.at) (all_counted l.found.items) (keys_of l.name-iterator)
      ≡ fold (with_instance_value l.cluster l.groups l.job l.at) (all_counted l.fn.found.items) (keys_of (attr_at l.queue.values l.groups l.at.host));
  has : AllByRecursion (HasOtherAmount l.cluster l.groups l.at) l.name-iterator;
}
