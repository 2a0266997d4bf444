use Rattle.std.proofs.Common.{◌≡◌, map, take}
use Rattle.std.specs.Prelude.{flat_map}
use Rattle.std.specs.Option.{option_to_list}
use Rattle.ge_model_config.specs.Shares.{user_name}
use Rattle.ge_config.proofs.share_tree.user_names.Given as goal

abbrev pub invariant-loop-id : goal.invariant-loop-id
invariant-loop-id l = map (λ name. name.now) l.names.items ≡ flat_map (λ id. option_to_list (user_name l.nodes id)) (take l.id-index l.ids)
