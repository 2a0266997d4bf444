use Rattle.std.proofs.Common.{◌≡◌, [], ◌∷◌}
use Rattle.ge_model_config.specs.Shares.{level_below}
use Rattle.ge_config.proofs.share_tree.is_deep.Given as goal

abbrev pub invariant-loop-levels : goal.invariant-loop-levels
invariant-loop-levels l = level_below l.levels l.nodes l.level.items ≡ level_below 17 l.nodes (0 ∷ [])

abbrev pub decreases-loop-levels : goal.decreases-loop-levels
decreases-loop-levels l = l.levels
