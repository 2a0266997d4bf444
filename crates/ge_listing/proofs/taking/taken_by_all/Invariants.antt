use Rattle.std.proofs.Common.{◌≡◌, drop}
use Rattle.std.specs.Prelude.{sum_by}
use Rattle.ge_base.specs.Fixed.{cut_sum}
use Rattle.ge_model_place.specs.Bookings.{taken_by, plain_sum}
use Rattle.ge_model_rows.specs.HostRows.{InstanceId}
use Rattle.ge_listing.specs.Taken.{slots_of, slots_taken}
use Rattle.ge_listing.proofs.taking.taken_by_all.Given as goal

abbrev pub invariant-loop-booking : goal.invariant-loop-booking
invariant-loop-booking l = (at : InstanceId) → cut_sum (slots_taken l.taken.entries at) (sum_by (taken_by (slots_of at) l.now) (drop l.booking-index l.bookings)) ≡ plain_sum l.bookings (slots_of at) l.now
