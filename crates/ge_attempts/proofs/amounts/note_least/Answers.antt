use Rattle.ge_attempts.proofs.LeastAsked.{more_least}
use Rattle.ge_attempts.proofs.amounts.note_least.Goals as goal

pub returns : goal.returns
returns c =
    more_least c.args.cluster.now c.args.amounts.now c.insert.new.self c.args.name.now c.in_ok-key.key c.least_of-least.result c.in_ok-key.ensures c.requires.least c.least_of-least.ensures c.in_ok-_before.ensures.updates
