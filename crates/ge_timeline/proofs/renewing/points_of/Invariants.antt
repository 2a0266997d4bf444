use Rattle.std.proofs.Common.{take}
use Rattle.ge_model_place.specs.Bookings.{plain_sum}
use Rattle.ge_timeline.specs.Looks.{changes}
use Rattle.ge_timeline.specs.Shown.{Draws}
use Rattle.ge_timeline.proofs.renewing.points_of.Given as goal

abbrev pub invariant-loop-b : goal.invariant-loop-b
invariant-loop-b l = Draws (plain_sum (take l.b-index l.bookings) l.limit) (changes (take l.b-index l.bookings) l.limit) l.points.items
