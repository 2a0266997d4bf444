use Rattle.std.proofs.Common.{◌++◌, ap, ◌∙◌}
use Rattle.ge_model_order.specs.Priority.{order_of}
use Rattle.ge_dispatching.proofs.deciding.decide_first.Goals as goal

pub returns-clause-tasks : goal.returns-clause-tasks
returns-clause-tasks c =
    let C = c.args.c.now in
    let now = c.args.now in
    c.in_ok-begun.ensures.tasks ∙ (λ i. c.in_ok-run.ensures.none i ++ order_of C (c.in_ok-first.ensures i) now)
