use Rattle.std.proofs.Common.{◌≡◌, take, map}
use Rattle.ge_model_grammar.specs.Rules.{written_resource}
use Rattle.ge_commands.proofs.rules.read_resources.Given as goal

abbrev pub invariant-loop-item : goal.invariant-loop-item
invariant-loop-item l = l.resources ≡ map written_resource (take l.item-index l.items)
