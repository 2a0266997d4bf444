use Rattle.std.proofs.Common.{ℕ, List, ap, ◌∙◌}
use Rattle.ge_model_order.specs.Share.{share_tickets_of}
use Rattle.ge_tickets.specs.Found.{finder_of}
use Rattle.ge_tickets.specs.Leveled.{tickets_in}
use Rattle.ge_tickets.proofs.Shared.{shared_same}
use Rattle.ge_tickets.proofs.sharing.tree_tickets.Goals as goal

pub returns : goal.returns
returns c =
    shared_same c.args.c.now c.items-numbers.result.now c.args.now c.in_ok-walk.walk c.in_ok-finder.finder c.in_ok-jobs.jobs c.in_ok-usage.usage c.in_ok-tickets.tickets c.in_ok-list.list c.in_ok-walk.ensures
    (c.in_ok-finder.ensures ∙ ap (λ nodes. finder_of nodes c.in_ok-walk.walk.lines) c.items-nodes.ensures) c.in_ok-jobs.ensures c.in_ok-usage.ensures
    (c.in_ok-tickets.ensures ∙ ap (λ nodes. tickets_in c.args.c.now.sched.share c.in_ok-usage.usage c.in_ok-jobs.jobs nodes) c.items-nodes.ensures) c.in_ok-list.ensures
    ∙ ap (λ (numbers : List ℕ). share_tickets_of c.args.c.now numbers c.args.now) c.items-numbers.ensures
