use Rattle.std.proofs.Common.{ℕ, List, ap, ◌∙◌}
use Rattle.ge_model_order.specs.Tickets.{tickets_of}
use Rattle.ge_tickets.proofs.Divided.{tickets_same}
use Rattle.ge_tickets.proofs.listing.counted_tickets.Goals as goal

pub returns : goal.returns
returns c =
    tickets_same c.args.c.now c.items-numbers.result.now c.in_ok-counts.counts c.in_ok-counts.ensures c.sum_shares-sums.result c.in_ok-tickets.tickets c.sum_shares-sums.ensures c.in_ok-tickets.ensures
    ∙ ap (λ (numbers : List ℕ). tickets_of c.args.c.now numbers) c.items-numbers.ensures
