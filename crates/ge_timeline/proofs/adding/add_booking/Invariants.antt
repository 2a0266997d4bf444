use Rattle.std.proofs.Common.{take}
use Rattle.ge_timeline.specs.Shown.{Shows, sums_with, changes_with}
use Rattle.ge_timeline.proofs.adding.add_booking.Given as goal

abbrev pub invariant-loop-demand : goal.invariant-loop-demand
invariant-loop-demand l = Shows l.index l.functions (sums_with l._bookings l.b (take l.demand-index l.b.demands)) (changes_with l._bookings l.b (take l.demand-index l.b.demands))
