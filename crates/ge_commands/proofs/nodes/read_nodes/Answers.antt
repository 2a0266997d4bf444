use Rattle.ge_commands.proofs.FiveLines.{node_turn}
use Rattle.ge_commands.proofs.nodes.read_nodes.Goals as goal

pub loop-rest-preserved : goal.loop-rest-preserved
loop-rest-preserved c =
    let e = c.in_ok-push-in-Ok.ensures.ok in
    rw e (node_turn c.loop-rest.nodes c.loop-rest.rest.now c.split_at.result.1.now c.in-Ok.node _ c.loop-rest-test.true c.in-Ok.ensures c.split_at.ensures.back c.loop-rest.invariant)
