use Rattle.std.proofs.Common.{◌≡◌, [], length}
use Rattle.ge_model_grammar.specs.Bodies.{nodes_after}
use Rattle.ge_commands.proofs.nodes.read_nodes.Given as goal

abbrev pub invariant-loop-rest : goal.invariant-loop-rest
invariant-loop-rest l = nodes_after l.nodes l.rest ≡ nodes_after [] l.fn.lines

abbrev pub decreases-loop-rest : goal.decreases-loop-rest
decreases-loop-rest l = length l.rest
