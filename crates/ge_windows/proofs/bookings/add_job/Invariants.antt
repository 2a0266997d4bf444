use Rattle.std.proofs.Common.{◌≡◌, ◌++◌, map}
use Rattle.ge_model_place.specs.Windows.{job_bookings, running_booking}
use Rattle.ge_windows.specs.Alike.{IsOfLast}
use Rattle.ge_windows.proofs.bookings.add_job.Given as goal

abbrev pub invariant-loop-task : goal.invariant-loop-task
invariant-loop-task l = record {
  booked : l.bookings ++ map (running_booking l.cluster l.groups l.now (l.number, l.job)) l.task-iterator ≡ l.fn.bookings ++ job_bookings l.cluster l.groups l.now (l.number, l.job);
  last : IsOfLast l.cluster l.groups l.job l.bookings l.last;
}
