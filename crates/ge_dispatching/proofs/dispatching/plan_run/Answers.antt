use Rattle.ge_dispatching.proofs.Dispatched.{dispatches_if}
use Rattle.ge_dispatching.proofs.dispatching.plan_run.Goals as goal

pub returns-clause-dispatches : goal.returns-clause-dispatches
returns-clause-dispatches c = dispatches_if c.args.c.now c.args.e.now _ c.planned_run.ensures
