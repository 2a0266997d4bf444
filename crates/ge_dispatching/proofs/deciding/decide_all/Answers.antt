use Rattle.std.proofs.Common.{[], ◌++◌, sym, ap, ◌∙◌}
use Rattle.std.proofs.lemmas.List.{append-nil}
use Rattle.ge_model_order.specs.Priority.{order_of}
use Rattle.ge_model_place.specs.Running.{run_of}
use Rattle.ge_dispatching.proofs.deciding.decide_all.Goals as goal

pub returns : goal.returns
returns c =
    let C = c.args.c.now in
    let now = c.args.now in
    let run = c.in_ok-run.ensures in
    record {
      others = [];
      are = sym (λ i. run_of C (run.none i ++ order_of C (c.in_ok-prios.ensures i) now) (run.moment i))
          ∙ sym c.in_ok-decisions.ensures
          ∙ sym (append-nil c.in_ok-decisions.decisions);
    }
