use Rattle.std.proofs.Common.{◌≡◌, ◌++◌}
use Rattle.std.specs.Prelude.{flat_map}
use Rattle.std.specs.Vec.Iter.{into_iter_items}
use Rattle.ge_windows.specs.Running.{bookings_at}
use Rattle.ge_windows.proofs.bookings.add_jobs_at.Given as goal

abbrev pub invariant-loop-number : goal.invariant-loop-number
invariant-loop-number l =
    l.bookings ++ flat_map (bookings_at l.cluster l.groups l.now) (into_iter_items l.number-iterator)
    ≡ l.fn.bookings ++ flat_map (bookings_at l.cluster l.groups l.now) l.fn.numbers.items
