use Rattle.std.proofs.Common.{◌≡◌, take}
use Rattle.ge_model_place.specs.Bookings.{plain_sum}
use Rattle.ge_bookings.proofs.sums.sum_at.Given as goal

abbrev pub invariant-loop-booking : goal.invariant-loop-booking
invariant-loop-booking l = l.total ≡ plain_sum (take l.booking-index l.list) l.limit l.moment
