use Rattle.ge_config.proofs.ShareTree.{level_more}
use Rattle.ge_config.proofs.share_tree.next_level.Goals as goal

pub loop-id-preserved : goal.loop-id-preserved
loop-id-preserved c =
    level_more c.args.nodes.now c.args.ids.now c.loop-id.id-index 0 c.loop-id.below.items c.children_at.result.now c.push_all.new.ids.items
    c.loop-id-test.true c.loop-id.invariant c.children_at.ensures c.in_ok-push_all.ensures
