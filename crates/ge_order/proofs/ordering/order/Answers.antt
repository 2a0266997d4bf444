use Rattle.std.proofs.Common.{◌∙◌, ap, flat_map}
use Rattle.std.specs.Prelude.{fold, []}
use Rattle.std.specs.Map.{keys_of}
use Rattle.ge_model_order.specs.Priority.{with_rank}
use Rattle.ge_order.specs.Ranked.{tasks_at_rank}
use Rattle.ge_order.proofs.Ordered.{order_from_ranks}
use Rattle.ge_order.proofs.ordering.order.Goals as goal

pub returns : goal.returns
returns c =
    c.in_ok-order.ensures ∙ ap (flat_map (tasks_at_rank c.args.c.now c.args.now)) c.as_slice.ensures.value
    ∙ order_from_ranks c.args.c.now c.args.prios.now c.args.now c.in_ok-ranks.ranks.items (c.in_ok-ranks.ensures ∙ ap (λ prios. keys_of (fold with_rank [] prios)) c.items.ensures)
