use Rattle.std.proofs.Common.{◌+◌}
use Rattle.std.proofs.lemmas.Slice.Zip.{either_empty_from_Zip}
use Rattle.ge_model_order.specs.Amounts.{cut_at_64}
use Rattle.ge_order.proofs.Zipped.{zipped_out}
use Rattle.ge_dispatching.proofs.prioritizing.added.Goals as goal

pub returns : goal.returns
returns c =
    zipped_out (λ both. cut_at_64 (both.0 + both.1)) _ _ _ _ c.loop-one.invariant (either_empty_from_Zip c.loop-one.one-iterator c.next.new.self _ c.in-None.is c.next.ensures.steps)
