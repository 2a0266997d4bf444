use Rattle.std.proofs.Common.{[], sym, ap, ◌∙◌}
use Rattle.ge_model_order.specs.Priority.{prios_at, order_of}
use Rattle.ge_model_place.specs.Running.{run_of}
use Rattle.ge_model_core.specs.Scheduling.{decisions_at, decided}
use Rattle.ge_dispatching.proofs.Waiting.{nothing_told}
use Rattle.ge_dispatching.proofs.deciding.decisions_told.Goals as goal

pub returns-then-all_wait : goal.returns-then-all_wait
unfolding decisions_at
returns-then-all_wait c =
    let C = c.args.c.now in
    let e = c.args.e.now in
    let tasks = order_of C (prios_at C e.moment) e.moment in
    ap (λ ds. decided e ds) c.new.ensures
    ∙ sym (nothing_told e [] tasks)
    ∙ ap (λ ds. decided e ds) (sym (c.all_wait.ensures.waits c.if-all_wait.true tasks))
    ∙ ap (λ now. decided e (run_of C tasks now)) c.in_ok-basis.ensures.moment

pub returns : goal.returns
unfolding decisions_at
returns c =
    let C = c.args.c.now in
    let e = c.args.e.now in
    let tells = c.in_ok-decisions.ensures in
    sym (nothing_told e c.in_ok-decisions.decisions tells.others)
    ∙ ap (λ ds. decided e ds) (sym tells.are)
    ∙ ap (λ now. decided e (run_of C (order_of C (prios_at C e.moment) e.moment) now)) c.in_ok-basis.ensures.moment
