use Rattle.std.proofs.Common.{subst, sym, All}
use Rattle.ge_attempts.specs.Common.{IsAsked}
use Rattle.ge_attempts.proofs.Everywhere.{are_asked}
use Rattle.ge_attempts.proofs.asking.asked_at.Goals as goal

pub returns : goal.returns
returns c =
    let C = c.args.at.now.cluster.now in
    let groups = c.args.at.now.groups.now in
    subst (λ limits. All (IsAsked C groups c.args.job.now) limits) (sym c.from_vec.ensures) (are_asked C groups c.args.job.now c.args.first.now c.in_ok-limits.limits.items c.in_ok-limits.ensures)
