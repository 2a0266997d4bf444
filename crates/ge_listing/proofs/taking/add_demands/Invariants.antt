use Rattle.std.proofs.Common.{◌≡◌, drop}
use Rattle.std.specs.Prelude.{sum_by}
use Rattle.ge_base.specs.Fixed.{cut_sum}
use Rattle.ge_model_place.specs.Bookings.{asked_of}
use Rattle.ge_model_rows.specs.HostRows.{InstanceId}
use Rattle.ge_listing.specs.Taken.{slots_of, slots_taken}
use Rattle.ge_listing.proofs.taking.add_demands.Given as goal

abbrev pub invariant-loop-demand : goal.invariant-loop-demand
invariant-loop-demand l =
    (at : InstanceId) → cut_sum (slots_taken l.taken.entries at) (sum_by (asked_of (slots_of at)) (drop l.demand-index l.demands)) ≡ cut_sum (slots_taken l.fn.taken.entries at) (sum_by (asked_of (slots_of at)) l.demands)
