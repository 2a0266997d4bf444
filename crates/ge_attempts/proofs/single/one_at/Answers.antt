use Rattle.ge_attempts.proofs.Singly.{one_taken}
use Rattle.ge_attempts.proofs.single.one_at.Goals as goal

pub returns : goal.returns
returns c = λ d. one_taken c.args.place c.args.order.now c.split_at.result.1.now c.split_at-2.result.0.now d c.requires c.split_at.ensures.back c.split_at-2.ensures.front
