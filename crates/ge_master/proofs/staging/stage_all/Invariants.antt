-- What the events so far gave.
use Rattle.std.proofs.Common.{drop}
use Rattle.ge_model_core.specs.Plan.{plan_of}
use Rattle.ge_master.proofs.Staged.{HasStaged}
use Rattle.ge_master.proofs.staging.stage_all.Given as goal

abbrev pub invariant-loop-event : goal.invariant-loop-event
invariant-loop-event l = HasStaged plan_of l.fn.cluster l.events l.cluster (drop l.event-index l.events) l.replies l.body
