use Rattle.std.proofs.Common.{◌≡◌, [], length}
use Rattle.ge_model_grammar.specs.Bodies.{rule_set_from}
use Rattle.ge_commands.proofs.rule_sets.read_inside.Given as goal

abbrev pub invariant-loop-line : goal.invariant-loop-line
invariant-loop-line l = rule_set_from l.values l.rules l.rest ≡ rule_set_from [] [] l.fn.lines

abbrev pub decreases-loop-line : goal.decreases-loop-line
decreases-loop-line l = length l.rest
