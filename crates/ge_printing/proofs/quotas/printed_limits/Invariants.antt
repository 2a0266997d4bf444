use Rattle.std.proofs.Common.{◌≡◌, ◌++◌, map}
use Rattle.ge_model_rows.specs.ValueRows.{Amount}
use Rattle.ge_model_rows.specs.Complexes.{pair_text}
use Rattle.ge_printing.proofs.quotas.printed_limits.Given as goal

abbrev pub invariant-loop-name : goal.invariant-loop-name
invariant-loop-name l = l.texts ++ map (pair_text l.c) (map (λ limit. (limit.0, Amount limit.1)) l.name-iterator) ≡ map (pair_text l.c) (map (λ limit. (limit.0, Amount limit.1)) l.limits)
