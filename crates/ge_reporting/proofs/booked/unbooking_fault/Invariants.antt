use Rattle.std.proofs.Common.{◌≡◌, drop}
use Rattle.std.specs.Prelude.{flat_map}
use Rattle.ge_model_rows.specs.Faults.{after_faults, first_fault}
use Rattle.ge_model_core.specs.Booking.{unbook_faults}
use Rattle.ge_reporting.proofs.booked.unbooking_fault.Given as goal

abbrev pub invariant-loop-number : goal.invariant-loop-number
invariant-loop-number l =
    after_faults l.faults (flat_map (unbook_faults l.cluster l.e) (drop l.number-index l.numbers)) ≡ first_fault (flat_map (unbook_faults l.cluster l.e) l.numbers)
