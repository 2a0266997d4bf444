use Rattle.std.proofs.Common.{◌≡◌, ◌++◌, map}
use Rattle.ge_model_report.specs.Booked.{booked_line}
use Rattle.ge_listing.proofs.booked.all.Given as goal

abbrev pub invariant-loop-number : goal.invariant-loop-number
invariant-loop-number l = l.lines ++ map (booked_line l.now) l.number-iterator ≡ map (booked_line l.now) l.advances
