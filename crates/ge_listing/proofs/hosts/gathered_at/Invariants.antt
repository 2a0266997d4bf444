use Rattle.std.proofs.Common.{◌≡◌, []}
use Rattle.std.specs.Prelude.{fold}
use Rattle.std.specs.Vec.Iter.{into_iter_items}
use Rattle.ge_listing.specs.Gathered.{with_orders_at}
use Rattle.ge_listing.proofs.hosts.gathered_at.Given as goal

abbrev pub invariant-loop-number : goal.invariant-loop-number
invariant-loop-number l =
    fold (with_orders_at l.host l.jobs) l.texts.entries (into_iter_items l.number-iterator) ≡ fold (with_orders_at l.host l.jobs) [] l.fn.numbers.items
