use Rattle.ge_model_core.specs.Booking as booking
use Rattle.ge_core.proofs.Booked.{times_are}
use Rattle.ge_core.proofs.booking.has_no_time.Goals as goal

pub returns : goal.returns
returns c =
    times_are c.args.e.now.moment c.begins_at.result c.in_ok-until.until (booking.booked_from c.args.e.now c.args.options.now.items) (booking.asked_until c.args.e.now c.args.options.now.items)
    c.is_no_time.result c.is_no_time.ensures c.begins_at.ensures c.in_ok-until.ensures
