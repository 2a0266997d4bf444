use Rattle.std.proofs.Common.{◌≡◌, ◌-◌}
use Rattle.ge_model_config.specs.Shares.{children_at}
use Rattle.ge_config.specs.ShareTree.{walked, below_past}
use Rattle.ge_config.proofs.share_scopes.reach_past.Given as goal

abbrev pub invariant-loop-place : goal.invariant-loop-place
invariant-loop-place l = walked (below_past (children_at l.nodes)) (l.places - l.place) l.met l.place ≡ walked (below_past (children_at l.nodes)) l.places l.fn.met 0
