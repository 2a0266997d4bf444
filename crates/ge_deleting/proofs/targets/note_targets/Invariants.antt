use Rattle.std.proofs.Common.{◌≡◌, drop}
use Rattle.std.specs.Prelude.{flat_map}
use Rattle.ge_model_rows.specs.Faults.{after_faults}
use Rattle.ge_model_core.specs.Targets.{target_faults}
use Rattle.ge_deleting.proofs.targets.note_targets.Given as goal

abbrev pub invariant-loop-pick : goal.invariant-loop-pick
invariant-loop-pick l = record {
  same : l.live ≡ l.fn.live;
  noted : after_faults l.faults (flat_map (target_faults l.fn.live.0 l.fn.live.1) (drop l.pick-index l.picks))
      ≡ after_faults l.fn.faults (flat_map (target_faults l.fn.live.0 l.fn.live.1) l.picks);
}
