use Rattle.std.proofs.Common.{◌≡◌, ◌++◌, map}
use Rattle.ge_model_rows.specs.Complexes.{pair_text}
use Rattle.ge_printing.proofs.values.printed_pairs.Given as goal

abbrev pub invariant-loop-name : goal.invariant-loop-name
invariant-loop-name l = l.texts ++ map (pair_text l.c) l.name-iterator ≡ map (pair_text l.c) l.table
