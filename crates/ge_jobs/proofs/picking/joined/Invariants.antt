use Rattle.std.proofs.Common.{◌≡◌, fold, drop, []}
use Rattle.ge_model_jobs.specs.Picks.{join_pick}
use Rattle.ge_jobs.proofs.picking.joined.Given as goal

abbrev pub invariant-loop-pick : goal.invariant-loop-pick
invariant-loop-pick l = fold join_pick l.rows (drop l.pick-index l.picks) ≡ fold join_pick [] l.picks
