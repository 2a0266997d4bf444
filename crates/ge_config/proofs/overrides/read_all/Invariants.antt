use Rattle.std.proofs.Common.{◌≡◌, map, take}
use Rattle.std.specs.Prelude.{flat_map}
use Rattle.ge_model_config.specs.Overrides.{override_read}
use Rattle.ge_model_rows.specs.Faults.{after_faults}
use Rattle.ge_config.proofs.overrides.read_all.Given as goal

abbrev pub invariant-loop-pair : goal.invariant-loop-pair
invariant-loop-pair g l = record {
  values : l.others ≡ map (λ o. o.0) (map (override_read l.c l.fallback (g.R.Reader.read l.reader)) (take l.pair-index l.pairs));
  faults : l.faults ≡ after_faults l.fn.faults (flat_map (λ o. o.1) (map (override_read l.c l.fallback (g.R.Reader.read l.reader)) (take l.pair-index l.pairs)));
}
