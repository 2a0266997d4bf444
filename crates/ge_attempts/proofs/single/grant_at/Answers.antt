use Rattle.std.proofs.Common.{◌∙◌}
use Rattle.ge_attempts.proofs.Singly.{placed_alone}
use Rattle.ge_attempts.proofs.single.grant_at.Goals as goal

pub returns : goal.returns
returns c =
    c.in_ok-grants.ensures
    ∙ placed_alone c.args.at.now.cluster.now c.args.at.now.groups.now c.args.at.now.moment c.args.booked.now c.args.job.now c.requires.single c.args.one.now c.args._instance.now c.requires.one
