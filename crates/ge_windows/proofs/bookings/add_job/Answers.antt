use Rattle.std.proofs.Common.{rules, arith, sym, ap, subst, ◌∙◌, ◌≡◌}
use Rattle.std.proofs.lemmas.Grind.{common_steps}
use Rattle.ge_model_place.specs.Limits.{demands_of}
use Rattle.ge_model_rows.specs.ScheduleRows.{Booking}
use Rattle.std.specs.Prelude.{List}
use Rattle.ge_windows.specs.Alike.{IsOfLast}
use Rattle.ge_windows.proofs.Alike.{pushed_last}
use Rattle.ge_windows.proofs.bookings.add_job.Goals as goal

pub loop-task-preserved : goal.loop-task-preserved
loop-task-preserved c =
    let C = c.args.cluster.now in
    let groups = c.args.groups.now in
    let job = c.args.job.now in
    let b = c.running_booking.result in
    let grants = c.items-grants.result.now in
    let takes : b.demands ≡ demands_of C groups job grants = ap (λ (x : Booking). x.demands) c.running_booking.ensures ∙ ap (demands_of C groups job) (sym c.items-grants.ensures) in
    record {
      booked = first_of (search rules, grind (arith, common_steps));
      last = subst (λ (bookings : List Booking). IsOfLast C groups job bookings grants) (sym c.in_ok-push.ensures.ok) (pushed_last C groups job c.loop-task.bookings b grants takes);
    }
