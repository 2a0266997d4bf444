use Rattle.std.proofs.Common.{◌≡◌, ◌++◌, map}
use Rattle.ge_model_config.specs.Complexes.{printed_complex}
use Rattle.ge_printing.proofs.complexes.print_complexes.Given as goal

abbrev pub invariant-loop-name : goal.invariant-loop-name
invariant-loop-name l = l.lines ++ map printed_complex l.name-iterator ≡ map printed_complex l.complexes
