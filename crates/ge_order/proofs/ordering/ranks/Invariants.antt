use Rattle.std.proofs.Common.{◌≡◌, map, take}
use Rattle.ge_model_order.specs.Priority.{rank_of}
use Rattle.ge_order.proofs.ordering.ranks.Given as goal

abbrev pub invariant-loop-prio : goal.invariant-loop-prio
invariant-loop-prio l = l.ranks.items ≡ map rank_of (take l.prio-index l.prios)
