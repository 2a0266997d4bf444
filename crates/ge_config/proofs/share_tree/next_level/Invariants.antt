use Rattle.std.proofs.Common.{◌≡◌, take}
use Rattle.std.specs.Prelude.{flat_map}
use Rattle.ge_model_config.specs.Shares.{children_at}
use Rattle.ge_config.proofs.share_tree.next_level.Given as goal

abbrev pub invariant-loop-id : goal.invariant-loop-id
invariant-loop-id l = l.below.items ≡ flat_map (children_at l.nodes) (take l.id-index l.ids)
