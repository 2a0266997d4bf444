use Rattle.std.proofs.Common.{◌≡◌, ap, rules, fold, map}
use Rattle.std.specs.Prelude.{flat_map}
use Rattle.ge_model_rows.specs.ScheduleRows.{Quota}
use Rattle.ge_model_place.specs.Quotas.{keys_of_set}
use Rattle.ge_quota.specs.Asked.{asked_by}
use Rattle.ge_capacities.specs.Counts.{all_counted}
use Rattle.ge_capacities.specs.Found.{with_limit_unless_found}
use Rattle.ge_capacities.proofs.Sets.{rising_found}
use Rattle.ge_capacities.proofs.quotas.add_of_sets.Goals as goal

pub loop-name-init : goal.loop-name-init
loop-name-init c =
    let sets = c.args.cluster.now.quotas in
    let is : c.into_iter-name-iterator.result ≡ sets = search rules in
    record {
      counted =
          ap (λ rows. fold (with_limit_unless_found c.args.cluster.now c.args.groups.now c.args.job.now) (all_counted c.args.found.now.items) (map Quota (flat_map (keys_of_set c.args.cluster.now c.args.groups.now (asked_by c.args.who.now)) rows))) is;
      found = rising_found sets c.into_iter-name-iterator.result is c.iter-name-items.ensures.rising;
    }
