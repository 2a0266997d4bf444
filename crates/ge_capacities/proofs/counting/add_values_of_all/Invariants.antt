use Rattle.std.proofs.Common.{◌≡◌, fold}
use Rattle.std.specs.List.{AllByRecursion}
use Rattle.std.specs.Map.{keys_of}
use Rattle.ge_model_rows.specs.ScheduleRows.{Global}
use Rattle.ge_capacities.specs.Counts.{all_counted}
use Rattle.ge_capacities.specs.Found.{HasAmount, with_host_value}
use Rattle.ge_capacities.proofs.counting.add_values_of_all.Given as goal

abbrev pub invariant-loop-name : goal.invariant-loop-name
invariant-loop-name l = record {
  counted : fold (with_host_value l.cluster l.groups l.job Global) (all_counted l.found.items) (keys_of l.name-iterator)
      ≡ fold (with_host_value l.cluster l.groups l.job Global) (all_counted l.fn.found.items) (keys_of (l.row.values));
  has : AllByRecursion (HasAmount l.cluster l.groups Global) l.name-iterator;
}
