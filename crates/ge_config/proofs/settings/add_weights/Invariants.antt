use Rattle.std.proofs.Common.{◌≡◌, [], take}
use Rattle.std.specs.Prelude.{fold}
use Rattle.ge_model_rows.specs.Faults.{after_faults}
use Rattle.ge_model_config.specs.Settings.{with_weight_item}
use Rattle.ge_config.proofs.settings.add_weights.Given as goal

abbrev pub invariant-loop-item : goal.invariant-loop-item
invariant-loop-item l = record {
  weights : l.weights ≡ (fold with_weight_item ([], []) (take l.item-index l.items)).0;
  faults : l.faults ≡ after_faults l.fn.faults (fold with_weight_item ([], []) (take l.item-index l.items)).1;
}
