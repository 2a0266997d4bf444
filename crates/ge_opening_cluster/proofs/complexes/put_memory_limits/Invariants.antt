-- The limits of the names so far.
use Rattle.std.proofs.Common.{◌≡◌, fold, map, take}
use Rattle.ge_rows.specs.declared.values.Kind.TheVariants.{Memory}
use Rattle.ge_model_rows.specs.OpeningComplexes.{limit_complex, with_row}
use Rattle.ge_opening_cluster.proofs.complexes.put_memory_limits.Given as goal

abbrev pub invariant-loop-name : goal.invariant-loop-name
invariant-loop-name l = l.rows ≡ fold with_row l.fn.rows (map (limit_complex Memory) (map (λ name. name.now) (take l.name-index l.name-items)))
