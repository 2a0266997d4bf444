use Rattle.std.proofs.Common.{◌≡◌}
use Rattle.std.specs.List.{list_any}
use Rattle.ge_model_config.specs.Used as used
use Rattle.std.specs.Prelude.{◌||◌, ◌&&◌, ◌∷◌}
use Rattle.ge_configuring.proofs.queues.project_in_queues.Given as goal

abbrev pub invariant-loop-queue : goal.invariant-loop-queue
invariant-loop-queue l = list_any (λ queue. used.lists_name l.name queue.1.projects || used.lists_name l.name queue.1.xprojects) l.queue-iterator ≡ list_any (λ queue. used.lists_name l.name queue.1.projects || used.lists_name l.name queue.1.xprojects) l.c.queues
