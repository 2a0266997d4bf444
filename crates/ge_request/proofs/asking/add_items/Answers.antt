use Rattle.std.proofs.Common.{◌∙◌}
use Rattle.ge_request.proofs.Filled.{turn}
use Rattle.ge_request.proofs.asking.add_items.Goals as goal

pub loop-item-preserved : goal.loop-item-preserved
loop-item-preserved c = record {
  same = c.in_ok-add_item.ensures.same ∙ c.loop-item.invariant.same;
  filled = turn c.args.c.now c.loop-item.finder c.args.asked.now c.loop-item.asked _ c.args.faults.now c.loop-item.faults _ c.args.items.now c.loop-item.item-index _ c.loop-item-test.true
      c.loop-item.invariant.same c.loop-item.invariant.filled c.in_ok-add_item.ensures.added;
}
