use Rattle.std.proofs.Common.{◌≡◌, ◌++◌, subst, ap, ◌∙◌}
use Rattle.std.specs.Prelude.{OnOk, flat_map}
use Rattle.ge_windows.specs.Running.{bookings_at}
use Rattle.ge_windows.proofs.Running.{all_booked}
use Rattle.ge_windows.proofs.bookings.add_jobs.Goals as goal

pub returns : goal.returns
returns c =
    let C = c.args.cluster.now in
    let groups = c.args.groups.now in
    let now = c.args.now in
    subst (λ bs. OnOk c.add_jobs_at.result (c.add_jobs_at.new.bookings ≡ c.args.bookings.now ++ bs))
    (ap (λ numbers. flat_map (bookings_at C groups now) numbers) c.in_ok-numbers.ensures ∙ all_booked C groups now c.orderly.ensures.rising) c.add_jobs_at.ensures
