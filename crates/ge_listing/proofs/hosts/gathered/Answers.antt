use Rattle.std.proofs.Common.{◌≡◌, [], subst, ap, ◌∙◌}
use Rattle.std.specs.Prelude.{IfOk, fold}
use Rattle.ge_listing.specs.Gathered.{with_orders_at}
use Rattle.ge_listing.proofs.OnHost.{all_ordered}
use Rattle.ge_listing.proofs.hosts.gathered.Goals as goal

pub returns : goal.returns
returns c =
    let jobs = c.args.jobs.now in
    let host = c.args.host.now in
    subst (λ all. IfOk c.gathered_at.result (λ texts. texts.entries ≡ all))
    (ap (λ numbers. fold (with_orders_at host jobs) [] numbers) c.in_ok-numbers.ensures ∙ all_ordered host jobs c.orderly.ensures.rising) c.gathered_at.ensures
