use Rattle.std.proofs.Common.{◌≡◌, fold, drop, []}
use Rattle.ge_model_jobs.specs.Holds.{with_holding}
use Rattle.ge_jobs.proofs.holding.predecessor_tasks.Given as goal

abbrev pub invariant-loop-number : goal.invariant-loop-number
invariant-loop-number l = fold (with_holding l.jobs) l.tasks (drop l.number-index l.number-items) ≡ fold (with_holding l.jobs) [] l.number-items
