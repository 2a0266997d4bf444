use Rattle.std.proofs.Common.{◌≡◌, ap, rules, fold}
use Rattle.std.specs.Map.{keys_of}
use Rattle.ge_model_rows.specs.ScheduleRows.{Host}
use Rattle.ge_capacities.specs.Counts.{all_counted}
use Rattle.ge_capacities.specs.Found.{with_host_value}
use Rattle.ge_capacities.proofs.Sets.{has_host}
use Rattle.ge_capacities.proofs.counting.add_values_of_host.Goals as goal

pub loop-name-init : goal.loop-name-init
loop-name-init c =
    let values = c.args.row.now.values in
    let is : c.into_iter-name-iterator.result ≡ values = search rules in
    record {
      counted = ap (λ entries. fold (with_host_value c.args.cluster.now c.args.groups.now c.args.job.now (Host c.args.host.now)) (all_counted c.args.found.now.items) (keys_of entries)) is;
      has = has_host c.args.cluster.now c.args.groups.now c.args.host.now c.args.row.now c.requires c.into_iter-name-iterator.result is c.iter-name-items.ensures.rising;
    }
