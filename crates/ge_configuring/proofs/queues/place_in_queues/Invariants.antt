use Rattle.std.proofs.Common.{◌≡◌}
use Rattle.std.specs.List.{list_any}
use Rattle.ge_model_config.specs.Used as used
use Rattle.ge_model_rows.specs.Pieces.{is_one_of}
use Rattle.std.specs.Prelude.{◌||◌, ◌&&◌, ◌∷◌}
use Rattle.ge_configuring.proofs.queues.place_in_queues.Given as goal

abbrev pub invariant-loop-queue : goal.invariant-loop-queue
invariant-loop-queue l = list_any (λ queue. is_one_of l.name queue.1.hosts || used.is_overridden l.name queue.1) l.queue-iterator ≡ list_any (λ queue. is_one_of l.name queue.1.hosts || used.is_overridden l.name queue.1) l.c.queues
