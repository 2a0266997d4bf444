use Rattle.std.proofs.Common.{◌≡◌, ◌++◌, map}
use Rattle.ge_model_place.specs.Windows.{advance_booking}
use Rattle.ge_windows.proofs.bookings.add_advances.Given as goal

abbrev pub invariant-loop-number : goal.invariant-loop-number
invariant-loop-number l = l.bookings ++ map (advance_booking l.cluster l.groups l.now) l.number-iterator ≡ l.fn.bookings ++ map (advance_booking l.cluster l.groups l.now) l.cluster.advances
