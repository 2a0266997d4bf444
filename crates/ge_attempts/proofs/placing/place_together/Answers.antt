use Rattle.std.proofs.Common.{length, sym, arith}
use Rattle.ge_attempts.proofs.Remaining.{placed_nowhere}
use Rattle.ge_attempts.proofs.placing.place_together.Goals as goal

pub returns-then-not-has_candidate-clause-placed : goal.returns-then-not-has_candidate-clause-placed
returns-then-not-has_candidate-clause-placed c =
    let order = c.args.at.now.order.now in
    sym (placed_nowhere c.args.at.now.cluster.now c.args.at.now.groups.now c.args.at.now.moment c.args.booked.now c.args.job.now order (length order) (c.has_candidate.ensures c.if-not-has_candidate.true) (omega arith))
