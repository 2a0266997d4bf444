use Rattle.std.proofs.Common.{◌≡◌, ◌++◌, filter, not}
use Rattle.std.specs.Map.{keys_of}
use Rattle.ge_model_rows.specs.Pieces.{lists_number}
use Rattle.ge_model_config.specs.Shares.{ids_outside}
use Rattle.ge_config.proofs.share_tree.nodes_outside.Given as goal

abbrev pub invariant-loop-id : goal.invariant-loop-id
invariant-loop-id l = l.ids.items ++ ids_outside l.part l.id-iterator ≡ ids_outside l.part (keys_of l.nodes)
