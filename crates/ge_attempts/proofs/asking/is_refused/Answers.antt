use Rattle.std.proofs.Common.{ap, sym, ◌∙◌}
use Rattle.ge_attempts.specs.Common.{counts_alike, rules_out}
use Rattle.ge_attempts.proofs.Everywhere.{refused}
use Rattle.ge_attempts.proofs.asking.is_refused.Goals as goal

pub returns : goal.returns
returns c = λ is.
    let limits = c.args.limits.now in
    let booked = c.args.booked.now in
    refused c.args.at.now.cluster.now c.args.at.now.groups.now c.args.job.now limits c.requires c.args.at.now.order.now booked c.args.from
    (sym (c.rules_out.ensures
    ∙ ap (λ alike. rules_out alike booked c.args.from c.window_end_from-until.result c.items.result.now) c.counts_alike-alike.ensures
    ∙ ap (λ all. rules_out (counts_alike c.args.at.now.cluster.now) booked c.args.from c.window_end_from-until.result all) c.items.ensures
    ∙ ap (λ end. rules_out (counts_alike c.args.at.now.cluster.now) booked c.args.from end limits) c.window_end_from-until.ensures) ∙ is)
