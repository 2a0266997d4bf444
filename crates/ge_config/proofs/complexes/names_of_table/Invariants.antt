use Rattle.std.proofs.Common.{◌≡◌, ◌++◌, map}
use Rattle.std.specs.Prelude.{flat_map}
use Rattle.ge_model_config.specs.Complexes.{names_of_complex}
use Rattle.ge_config.proofs.complexes.names_of_table.Given as goal

abbrev pub invariant-loop-name : goal.invariant-loop-name
invariant-loop-name l = map (λ word. word.now) l.names.items ++ flat_map names_of_complex l.name-iterator ≡ flat_map names_of_complex l.table
