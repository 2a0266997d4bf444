use Rattle.std.proofs.Common.{◌≡◌, IfOk, sym, ap, subst}
use Rattle.ge_attempts.specs.Verdicts.{decision_at}
use Rattle.ge_scheduling.proofs.deciding.decision.Goals as goal

pub decision_for-requires-clause-there : goal.decision_for-requires-clause-there
decision_for-requires-clause-there c = record { number = c.args.task.job; there = sym c.in-Some.ensures }

pub returns-in-Some-clause-decided : goal.returns-in-Some-clause-decided
returns-in-Some-clause-decided c =
    subst
    (λ job. IfOk c.decision_for.result (λ decision. decision
    ≡ decision_at c.args.at.now.cluster.now c.args.at.now.groups.now c.args.at.now.order.now c.args.at.now.moment c.args.booked.now c.args.tally.now job c.args.task))
    c.in-Some.ensures c.decision_for.ensures.decided

pub returns-in-None-clause-decided : goal.returns-in-None-clause-decided
returns-in-None-clause-decided c =
    ap (λ job. decision_at c.args.at.now.cluster.now c.args.at.now.groups.now c.args.at.now.order.now c.args.at.now.moment c.args.booked.now c.args.tally.now job c.args.task) c.in-None.ensures
