use Rattle.ge_tickets.proofs.Linked.{levels_same}
use Rattle.ge_tickets.proofs.leveling.divide_tickets.Goals as goal

pub returns : goal.returns
returns c =
    levels_same c.args.all c.args.usage.now c.args.jobs.now c.args.nodes.now _ _ _ _ c.in_ok-used.ensures c.in_ok-weights.ensures c.in_ok-heavy.ensures c.in_ok-tickets.ensures
