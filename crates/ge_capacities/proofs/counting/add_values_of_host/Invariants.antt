use Rattle.std.proofs.Common.{◌≡◌, fold}
use Rattle.std.specs.List.{AllByRecursion}
use Rattle.std.specs.Map.{keys_of}
use Rattle.ge_model_rows.specs.ScheduleRows.{Host}
use Rattle.ge_capacities.specs.Counts.{all_counted}
use Rattle.ge_capacities.specs.Found.{HasAmount, with_host_value}
use Rattle.ge_capacities.proofs.counting.add_values_of_host.Given as goal

abbrev pub invariant-loop-name : goal.invariant-loop-name
invariant-loop-name l = record {
  counted : fold (with_host_value l.cluster l.groups l.job (Host l.host)) (all_counted l.found.items) (keys_of l.name-iterator)
      ≡ fold (with_host_value l.cluster l.groups l.job (Host l.host)) (all_counted l.fn.found.items) (keys_of (l.row.values));
  has : AllByRecursion (HasAmount l.cluster l.groups (Host l.host)) l.name-iterator;
}
