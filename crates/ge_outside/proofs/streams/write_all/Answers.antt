use Rattle.std.proofs.Common.{arith, ◌∙◌}
use Rattle.ge_outside.specs.Streams.{Gains-take}
use Rattle.ge_outside.proofs.streams.write_all.Goals as goal

pub loop-done-preserved : goal.loop-done-preserved
loop-done-preserved g c = (
  Gains-take _ _ _ c.args.piece.now c.loop-done.done c.in_ok-done.field-0 c.loop-done.invariant.0
      (rw c.split_at.ensures.back at c.in_ok-done.ensures.gained),
  omega (arith, c.in_ok-done.ensures.bound),
  c.in_ok-done.ensures.no_fault ∙ c.loop-done.invariant.2,
  c.write.ensures.read_side ∙ c.loop-done.invariant.3,
)
