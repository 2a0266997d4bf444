use Rattle.std.proofs.Common.{[], ◌++◌, map, sym, ap, ◌∙◌}
use Rattle.std.proofs.lemmas.List.{append-nil}
use Rattle.ge_model_rows.specs.DecisionRows.{Skip}
use Rattle.ge_model_order.specs.Priority.{order_of}
use Rattle.ge_model_place.specs.Running.{run_of}
use Rattle.ge_order.specs.Parted.{second_of}
use Rattle.ge_order.proofs.InParts.{in_parts}
use Rattle.ge_dispatching.proofs.deciding.decide_in_parts.Goals as goal

pub returns-then-others_wait : goal.returns-then-others_wait
returns-then-others_wait c =
    let C = c.args.c.now in
    let now = c.args.now in
    let bound = c.args.bound.now in
    let prios = c.args.prios.now in
    let others = order_of C (second_of bound prios) now in
    let begun = c.in_ok-begun.ensures in
    record {
      others = others;
      are = ap (λ ts. run_of C ts c.args.basis.moment) (in_parts C now bound prios)
          ∙ sym (λ i. run_of C (begun.tasks i ++ others) (begun.moment i))
          ∙ c.others_wait.ensures.waits c.if-others_wait.true others
          ∙ ap (λ ds. ds ++ map (λ task. Skip task) others) (sym c.decisions_of.ensures.made);
    }

pub returns : goal.returns
returns c =
    let C = c.args.c.now in
    let now = c.args.now in
    let bound = c.args.bound.now in
    let prios = c.args.prios.now in
    let begun = c.in_ok-begun.ensures in
    record {
      others = [];
      are = ap (λ ts. run_of C ts c.args.basis.moment) (in_parts C now bound prios)
          ∙ sym (λ i. run_of C (begun.tasks i ++ order_of C (second_of bound prios) now) (begun.moment i))
          ∙ sym c.in_ok-decisions.ensures
          ∙ sym (append-nil c.in_ok-decisions.decisions);
    }
