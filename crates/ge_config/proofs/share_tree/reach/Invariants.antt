use Rattle.std.proofs.Common.{◌≡◌, ◌-◌}
use Rattle.ge_model_config.specs.Shares.{reached_nodes}
use Rattle.ge_config.proofs.share_tree.reach.Given as goal

abbrev pub invariant-loop-place : goal.invariant-loop-place
invariant-loop-place l = reached_nodes (l.places - l.place) l.nodes l.met l.place ≡ reached_nodes l.places l.nodes l.fn.met 0
