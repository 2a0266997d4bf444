use Rattle.std.proofs.Common.{◌≡◌, take}
use Rattle.std.specs.Prelude.{flat_map}
use Rattle.ge_model_config.specs.Complexes.{row_faults}
use Rattle.ge_model_rows.specs.Faults.{after_faults}
use Rattle.ge_config.proofs.complexes.note_rows.Given as goal

abbrev pub invariant-loop-line : goal.invariant-loop-line
invariant-loop-line l = l.faults ≡ after_faults l.fn.faults (flat_map (row_faults l.c) (take l.line-index l.lines))
