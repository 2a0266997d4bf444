use Rattle.std.proofs.Common.{◌≡◌, [], take, map}
use Rattle.std.specs.Prelude.{fold}
use Rattle.ge_model_rows.specs.Faults.{after_faults}
use Rattle.ge_model_config.specs.Queues.{with_queue_limit}
use Rattle.ge_config.proofs.queues.read_limits.Given as goal

abbrev pub invariant-loop-name : goal.invariant-loop-name
invariant-loop-name l = record {
  table : l.table ≡ (fold (with_queue_limit l.c l.values) ([], []) (map (λ name. name.now) (take l.name-index l.name-items))).0;
  faults : l.faults ≡ after_faults l.fn.faults (fold (with_queue_limit l.c l.values) ([], []) (map (λ name. name.now) (take l.name-index l.name-items))).1;
}
