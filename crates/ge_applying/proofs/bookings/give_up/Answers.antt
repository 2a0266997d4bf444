use Rattle.ge_collections.specs.Keyed.{drop_number}
use Rattle.ge_applying.proofs.Folded.{one_further}
use Rattle.ge_applying.proofs.bookings.give_up.Goals as goal

pub loop-number-preserved : goal.loop-number-preserved
loop-number-preserved c =
    one_further drop_number c.args.numbers.now c.loop-number.number-index _ c.loop-number.advances c.remove-advance.new.self _
    c.loop-number-test.true c.remove-advance.ensures.rest c.loop-number.invariant
