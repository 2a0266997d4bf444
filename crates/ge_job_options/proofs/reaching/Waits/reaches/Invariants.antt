use Rattle.std.proofs.Common.{[]}
use Rattle.ge_model_core.specs.Reaching.{waits_for, meets}
use Rattle.ge_job_options.specs.Walking.{Walks}
use Rattle.ge_job_options.proofs.reaching.Waits.reaches.Given as goal

abbrev pub invariant-walk : goal.invariant-walk
invariant-walk l =
    Walks (waits_for l.self.0 l.self.1) l.goal l.steps l.seen l.stack.items (meets (waits_for l.self.0 l.self.1) l.goal l.all [] (waits_for l.self.0 l.self.1 l.goal))

abbrev pub decreases-walk : goal.decreases-walk
decreases-walk l = l.steps
