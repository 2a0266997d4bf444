use Rattle.std.proofs.Common.{◌≡◌}
use Rattle.std.specs.List.{list_any}
use Rattle.ge_config.specs.Uses.{queue_has_some}
use Rattle.ge_config.proofs.uses.queues_name_some.Given as goal

abbrev pub invariant-loop-queue : goal.invariant-loop-queue
invariant-loop-queue l = list_any (queue_has_some l.names) l.queue-iterator ≡ list_any (queue_has_some l.names) l.queues
