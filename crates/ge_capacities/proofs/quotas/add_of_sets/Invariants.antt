use Rattle.std.proofs.Common.{◌≡◌, fold, map, Some}
use Rattle.std.specs.Prelude.{flat_map}
use Rattle.std.specs.List.{AllByRecursion}
use Rattle.ge_collections.specs.Keyed.{at_text}
use Rattle.ge_model_rows.specs.ScheduleRows.{Quota}
use Rattle.ge_model_place.specs.Quotas.{keys_of_set}
use Rattle.ge_quota.specs.Asked.{asked_by}
use Rattle.ge_capacities.specs.Counts.{all_counted}
use Rattle.ge_capacities.specs.Found.{with_limit_unless_found}
use Rattle.ge_capacities.proofs.quotas.add_of_sets.Given as goal

abbrev pub invariant-loop-name : goal.invariant-loop-name
invariant-loop-name l = record {
  counted : fold (with_limit_unless_found l.cluster l.groups l.job) (all_counted l.found.items) (map Quota (flat_map (keys_of_set l.cluster l.groups (asked_by l.who)) l.name-iterator))
      ≡ fold (with_limit_unless_found l.cluster l.groups l.job) (all_counted l.fn.found.items) (map Quota (flat_map (keys_of_set l.cluster l.groups (asked_by l.who)) l.cluster.quotas));
  found : AllByRecursion (λ e. at_text l.cluster.quotas e.0 ≡ Some e.1) l.name-iterator;
}
