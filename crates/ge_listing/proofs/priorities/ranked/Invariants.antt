use Rattle.std.proofs.Common.{◌≡◌, [], take}
use Rattle.std.specs.Prelude.{fold}
use Rattle.ge_model_order.specs.Priority.{with_rank}
use Rattle.ge_listing.proofs.priorities.ranked.Given as goal

abbrev pub invariant-loop-prio : goal.invariant-loop-prio
invariant-loop-prio l = l.rows.entries ≡ fold with_rank [] (take l.prio-index l.prios)
