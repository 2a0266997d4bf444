use Rattle.std.proofs.Common.{◌∙◌, sym, ap}
use Rattle.ge_order.specs.Ranked.{rise}
use Rattle.ge_order.proofs.Ordered.{are_ranks}
use Rattle.ge_order.proofs.ordering.ranked.Goals as goal

pub returns-then-rises : goal.returns-then-rises
returns-then-rises c =
    are_ranks c.args.prios.now c.in_ok-sorted.sorted.items c.in_ok-sorted.ensures
    (ap rise (sym c.as_slice.ensures.value) ∙ sym c.rises.ensures ∙ c.if-rises.true)
