use Rattle.std.proofs.Common.{◌≡◌, drop}
use Rattle.std.specs.Prelude.{flat_map}
use Rattle.ge_model_rows.specs.Faults.{after_faults}
use Rattle.ge_model_core.specs.Altering.{alter_faults}
use Rattle.ge_submitting.proofs.altering.note_numbers.Given as goal

abbrev pub invariant-loop-number : goal.invariant-loop-number
invariant-loop-number l = after_faults l.faults (flat_map (alter_faults l.c l.e l.options.items) (drop l.number-index l.numbers))
    ≡ after_faults l.fn.faults (flat_map (alter_faults l.c l.e l.options.items) l.numbers)
