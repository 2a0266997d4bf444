use Rattle.std.proofs.Common.{◌∙◌, ap, arith, map, take_all}
use Rattle.std.specs.Prelude.{flat_map}
use Rattle.std.specs.Option.{option_to_list}
use Rattle.ge_model_config.specs.Shares.{user_name}
use Rattle.ge_config.proofs.ShareTree.{names_listed, names_more}
use Rattle.ge_config.proofs.share_tree.user_names.Goals as goal

pub loop-id-preserved : goal.loop-id-preserved
loop-id-preserved c =
    names_more c.args.nodes.now c.args.ids.now c.loop-id.id-index 0 (map (λ name. name.now) c.loop-id.names.items) (map (λ name. name.now) c.push_user.new.names.items)
    c.loop-id-test.true c.loop-id.invariant c.in_ok-push_user.ensures

pub returns : goal.returns
returns c =
    c.loop-id.invariant
    ∙ ap (flat_map (λ id. option_to_list (user_name c.args.nodes.now id))) (take_all c.loop-id.id-index c.args.ids.now (omega arith))
    ∙ names_listed c.args.nodes.now c.args.ids.now
