use Rattle.std.proofs.Common.{◌≡◌, ◌&&◌, ◌||◌, not}
use Rattle.std.specs.Prelude.{◌==◌}
use Rattle.std.specs.List.{list_all}
use Rattle.std.specs.Map.{keys_of}
use Rattle.ge_model_rows.specs.Pieces.{lists_number}
use Rattle.ge_config.proofs.share_tree.are_met_once.Given as goal

abbrev pub invariant-loop-id : goal.invariant-loop-id
invariant-loop-id l = list_all (λ id. id == 0 || lists_number l.met id && not (lists_number l.doubled id)) l.id-iterator ≡ list_all (λ id. id == 0 || lists_number l.met id && not (lists_number l.doubled id)) (keys_of l.nodes)
