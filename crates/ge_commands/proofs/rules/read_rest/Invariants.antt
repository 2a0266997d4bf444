use Rattle.std.proofs.Common.{◌≡◌, length}
use Rattle.ge_model_grammar.specs.Rules.{rule_with_rest}
use Rattle.ge_commands.proofs.rules.read_rest.Given as goal

abbrev pub invariant-loop-word : goal.invariant-loop-word
invariant-loop-word l = rule_with_rest l.rule l.rest ≡ rule_with_rest l.fn.rule l.fn.words

abbrev pub decreases-loop-word : goal.decreases-loop-word
decreases-loop-word l = length l.rest
