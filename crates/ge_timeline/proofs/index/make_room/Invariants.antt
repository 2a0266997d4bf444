use Rattle.std.proofs.Common.{◌≡◌, ◌<◌, length}
use Rattle.std.specs.Prelude.{fold}
use Rattle.std.specs.Vec.Iter.{into_iter_items}
use Rattle.ge_timeline.specs.Chains.{with_entry, numbers_of, IsChained}
use Rattle.ge_timeline.proofs.index.make_room.Given as goal

abbrev pub invariant-loop-limit : goal.invariant-loop-limit
invariant-loop-limit l = record {
  chained : IsChained l.entries.items (length l.heads.items) l.heads.items;
  some : 0 < length l.heads.items;
  same : fold with_entry (numbers_of l.entries.items) (into_iter_items l.limit-iterator) ≡ numbers_of l.fn.entries.items;
}
