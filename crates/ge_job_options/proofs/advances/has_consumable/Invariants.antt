use Rattle.std.proofs.Common.{◌≡◌}
use Rattle.std.specs.List.{list_any}
use Rattle.ge_model_rows.specs.Complexes.{is_consumable}
use Rattle.ge_job_options.proofs.advances.has_consumable.Given as goal

abbrev pub invariant-loop-name : goal.invariant-loop-name
invariant-loop-name l = list_any (λ a. is_consumable l.c a.0) l.name-iterator ≡ list_any (λ a. is_consumable l.c a.0) l.asked
