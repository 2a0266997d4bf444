use Rattle.ge_config.proofs.ShareTree.{once_more}
use Rattle.ge_config.proofs.share_tree.children_once.Goals as goal

pub loop-id-preserved : goal.loop-id-preserved
loop-id-preserved c =
    once_more c.args.nodes.now c.args.ids.now c.loop-id.id-index 0 c.loop-id.met c.children_at.result.now c.add_all.new.self
    c.loop-id-test.true c.loop-id.invariant c.children_at.ensures c.in_ok-add_all.ensures
