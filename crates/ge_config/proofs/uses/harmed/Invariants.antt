use Rattle.std.proofs.Common.{◌≡◌}
use Rattle.std.specs.Prelude.{fold}
use Rattle.ge_config.specs.Uses.{with_harmed, harmed_names}
use Rattle.ge_config.proofs.uses.harmed.Given as goal

abbrev pub invariant-loop-name : goal.invariant-loop-name
invariant-loop-name l = fold (with_harmed l.harm l.table) l.names l.name-iterator ≡ harmed_names l.harm l.table l.complexes
