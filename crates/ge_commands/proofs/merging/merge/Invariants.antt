use Rattle.std.proofs.Common.{◌≡◌, ◌++◌, map, drop}
use Rattle.std.specs.Prelude.{filter, filter_map}
use Rattle.ge_model_grammar.specs.Shapes.{is_effective, item_in, merged_by}
use Rattle.ge_commands.specs.Shown.{shape_shown, all_shown}
use Rattle.ge_commands.proofs.merging.merge.Given as goal

abbrev pub invariant-loop-shape : goal.invariant-loop-shape
invariant-loop-shape l = l.items.items ++ merged_by (map shape_shown (drop l.shape-index l.table)) (all_shown l.given) ≡ merged_by (map shape_shown l.table) (all_shown l.given)
