use Rattle.std.proofs.Common.{◌≡◌, drop}
use Rattle.ge_model_grammar.specs.Bodies.{attribute_in}
use Rattle.ge_commands.proofs.attributes.value_in.Given as goal

abbrev pub invariant-loop-key : goal.invariant-loop-key
invariant-loop-key l = attribute_in (drop l.key-index l.values) l.name ≡ attribute_in l.values l.name
