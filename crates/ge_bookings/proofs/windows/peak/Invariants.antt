use Rattle.std.proofs.Common.{◌≡◌, take}
use Rattle.std.specs.Prelude.{fold}
use Rattle.ge_model_place.specs.Bookings.{plain_sum, raised}
use Rattle.ge_bookings.proofs.windows.peak.Given as goal

abbrev pub invariant-loop-booking : goal.invariant-loop-booking
invariant-loop-booking l = l.most ≡ fold (raised l.list l.limit l.from l.until) (plain_sum l.list l.limit l.from) (take l.booking-index l.list)
