use Rattle.std.proofs.Common.{◌≡◌, ◌∙◌, IfSome, subst, ap}
use Rattle.ge_model_order.specs.Candidates.{candidates}
use Rattle.ge_model_order.specs.Priority.{prios_of, prios_at}
use Rattle.ge_model_order.specs.Tickets.{tickets_of}
use Rattle.ge_dispatching.proofs.Ticketed.{functional_alone}
use Rattle.ge_dispatching.proofs.prioritizing.run_prios.Goals as goal

pub returns-in-Some : goal.returns-in-Some
unfolding prios_at
returns-in-Some c =
    let C = c.args.c.now in
    let now = c.args.now in
    let jobs = candidates C now in
    subst (λ found. IfSome found (λ prios. prios ≡ prios_of C jobs (tickets_of C jobs) now)) c.in-Some.is c.in_ok-prios.ensures
    ∙ ap (λ held. prios_of C jobs held now) (functional_alone C jobs now (c.has_no_tree.ensures c.if-has_no_tree.true))
