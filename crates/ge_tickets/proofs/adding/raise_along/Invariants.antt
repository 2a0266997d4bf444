use Rattle.std.proofs.Common.{◌≡◌, take}
use Rattle.ge_model_order.specs.ShareTables.{raised_along}
use Rattle.ge_tickets.proofs.adding.raise_along.Given as goal

abbrev pub invariant-loop-id : goal.invariant-loop-id
invariant-loop-id l = l.amounts ≡ raised_along l.fn.amounts (take l.id-index l.ids) l.more
