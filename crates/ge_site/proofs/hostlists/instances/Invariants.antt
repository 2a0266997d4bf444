use Rattle.std.proofs.Common.{◌≡◌, ◌++◌}
use Rattle.std.specs.Prelude.{flat_map}
use Rattle.ge_model_rows.specs.Queues.{queue_instances}
use Rattle.ge_site.proofs.hostlists.instances.Given as goal

abbrev pub invariant-loop-name : goal.invariant-loop-name
invariant-loop-name l = l.found ++ flat_map (queue_instances l.groups) l.name-iterator ≡ flat_map (queue_instances l.groups) l.cluster.queues
