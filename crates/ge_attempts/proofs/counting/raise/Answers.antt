use Rattle.ge_attempts.proofs.Tallies.{raised}
use Rattle.ge_attempts.proofs.counting.raise.Goals as goal

pub returns : goal.returns
returns c =
    raised c.args.running.now c.insert.new.self c.args.owner.now c.in_ok-key.key c.count_of.result c.args.by c.in_ok-next.next c.in_ok-key.ensures c.count_of.ensures c.in_ok-next.ensures
    c.in_ok-_before.ensures.updates
