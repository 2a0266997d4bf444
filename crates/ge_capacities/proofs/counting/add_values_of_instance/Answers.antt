use Rattle.std.proofs.Common.{◌≡◌, ℕ, List, ap, subst, rules, fold}
use Rattle.std.specs.Map.{keys_of}
use Rattle.ge_model_rows.specs.ValueRows.{Value}
use Rattle.ge_model_rows.specs.Queues.{attr_at}
use Rattle.ge_capacities.specs.Counts.{all_counted}
use Rattle.ge_capacities.specs.Found.{AreRising, with_instance_value}
use Rattle.ge_capacities.proofs.Sets.{has_instance}
use Rattle.ge_capacities.proofs.counting.add_values_of_instance.Goals as goal

pub loop-name-init : goal.loop-name-init
loop-name-init c =
    let values = attr_at c.args.queue.now.values c.args.groups.now c.args.at.now.host in
    let rising = subst (λ (l : List (List ℕ × Value)). AreRising l) c.at_host-values.ensures c.iter-name-items.ensures.rising in
    let is : c.into_iter-name-iterator.result ≡ values = search rules in
    record {
      counted = ap (λ entries. fold (with_instance_value c.args.cluster.now c.args.groups.now c.args.job.now c.args.at.now) (all_counted c.args.found.now.items) (keys_of entries)) is;
      has = has_instance c.args.cluster.now c.args.groups.now c.args.at.now c.args.queue.now c.requires c.into_iter-name-iterator.result is rising;
    }
