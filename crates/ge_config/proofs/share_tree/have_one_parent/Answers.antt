use Rattle.std.proofs.Common.{◌∙◌}
use Rattle.std.specs.Map.{keys_of}
use Rattle.ge_config.proofs.ShareTree.{one_parent}
use Rattle.ge_config.proofs.share_tree.have_one_parent.Goals as goal

pub returns : goal.returns
returns c = c.are_met_once-one.ensures ∙ one_parent c.args.children.now (keys_of c.args.nodes.now) _ c.in_ok-met.ensures
