use Rattle.std.proofs.Common.{◌≡◌, flat_map, take}
use Rattle.ge_collections.specs.Met.{AreFound}
use Rattle.ge_order.specs.Ranked.{tasks_at_rank}
use Rattle.ge_order.proofs.ordering.tasks_at.Given as goal

abbrev pub invariant-loop-rank : goal.invariant-loop-rank
invariant-loop-rank l = (l.order ≡ flat_map (tasks_at_rank l.c l.now) (take l.rank-index l.ranks)) × AreFound l.c.jobs l.left
