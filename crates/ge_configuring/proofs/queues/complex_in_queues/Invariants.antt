use Rattle.std.proofs.Common.{◌≡◌}
use Rattle.std.specs.List.{list_any}
use Rattle.ge_model_config.specs.Used as used
use Rattle.ge_model_config.specs.Cited.{has_name}
use Rattle.std.specs.Prelude.{◌||◌, ◌&&◌, ◌∷◌}
use Rattle.ge_configuring.proofs.queues.complex_in_queues.Given as goal

abbrev pub invariant-loop-queue : goal.invariant-loop-queue
invariant-loop-queue l = list_any (λ queue. used.attr_where (λ table. has_name table l.name) queue.1.values || used.attr_where (λ table. has_name table l.name) queue.1.thresholds) l.queue-iterator ≡ list_any (λ queue. used.attr_where (λ table. has_name table l.name) queue.1.values || used.attr_where (λ table. has_name table l.name) queue.1.thresholds) l.c.queues
