use Rattle.ge_model_core.specs.Booking.{unbook_faults}
use Rattle.ge_deleting.proofs.Noted.{noted_further}
use Rattle.ge_reporting.proofs.booked.unbooking_fault.Goals as goal

pub loop-number-preserved : goal.loop-number-preserved
loop-number-preserved c =
    noted_further (unbook_faults c.args.cluster.now c.args.e.now) c.args.numbers.now c.loop-number.number-index _ c.loop-number.faults c.note_number.new.faults _
    c.loop-number-test.true c.note_number.ensures c.loop-number.invariant
