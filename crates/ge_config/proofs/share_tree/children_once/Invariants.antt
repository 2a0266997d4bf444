use Rattle.std.proofs.Common.{◌≡◌, [], take}
use Rattle.std.specs.Prelude.{fold, flat_map}
use Rattle.ge_model_rows.specs.Pieces.{with_one_number}
use Rattle.ge_model_config.specs.Shares.{children_at}
use Rattle.ge_config.proofs.share_tree.children_once.Given as goal

abbrev pub invariant-loop-id : goal.invariant-loop-id
invariant-loop-id l = l.met ≡ fold with_one_number [] (flat_map (children_at l.nodes) (take l.id-index l.ids))
