use Rattle.std.proofs.Common.{◌≡◌, ◌++◌}
use Rattle.std.specs.Prelude.{flat_map}
use Rattle.ge_model_config.specs.Shares.{node_lines}
use Rattle.ge_printing.proofs.shares.print_shares.Given as goal

abbrev pub invariant-loop-id : goal.invariant-loop-id
invariant-loop-id l = l.lines ++ flat_map node_lines l.id-iterator ≡ flat_map node_lines l.nodes
