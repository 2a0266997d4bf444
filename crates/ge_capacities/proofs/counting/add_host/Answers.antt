use Rattle.std.proofs.Common.{◌≡◌, sym, ap, subst, ◌∙◌, fold}
use Rattle.std.specs.Prelude.{OnOk}
use Rattle.ge_model_rows.specs.ScheduleRows.{Host}
use Rattle.ge_model_place.specs.Limits.{host_limits}
use Rattle.ge_capacities.specs.Counts.{all_counted}
use Rattle.ge_capacities.specs.Found.{with_limit}
use Rattle.ge_capacities.proofs.Gathered.{of_host}
use Rattle.ge_capacities.proofs.counting.add_host.Goals as goal

pub returns-in-Some-clause-found : goal.returns-in-Some-clause-found
returns-in-Some-clause-found c =
    let cluster = c.args.cluster.now in
    let found = all_counted c.args.found.now.items in
    let is = ap (λ row. fold (with_limit cluster c.args.groups.now c.args.job.now) found (host_limits cluster (Host c.args.host.now) row)) (sym c.in-Some.ensures) ∙ of_host cluster c.args.groups.now c.args.job.now c.args.host.now c.in-Some.row.now found in
    subst (λ limits. OnOk c.add_values_of_host.result (all_counted c.add_values_of_host.new.found.items ≡ limits)) (sym is) c.add_values_of_host.ensures.found
