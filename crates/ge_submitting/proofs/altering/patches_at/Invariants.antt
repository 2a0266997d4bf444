use Rattle.std.proofs.Common.{◌≡◌, ◌++◌, drop}
use Rattle.std.specs.Prelude.{filter_map}
use Rattle.ge_model_core.specs.Altering.{patch_at}
use Rattle.ge_submitting.proofs.altering.patches_at.Given as goal

abbrev pub invariant-loop-number : goal.invariant-loop-number
invariant-loop-number l =
    l.patches ++ filter_map (patch_at l.c l.options.items) (drop l.number-index l.numbers) ≡ filter_map (patch_at l.c l.options.items) l.numbers
