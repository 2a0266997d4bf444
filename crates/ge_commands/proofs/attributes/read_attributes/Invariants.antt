use Rattle.std.proofs.Common.{◌≡◌, [], drop, map}
use Rattle.ge_model_grammar.specs.Bodies.{attributes_after}
use Rattle.ge_commands.proofs.attributes.read_attributes.Given as goal

abbrev pub invariant-loop-line : goal.invariant-loop-line
invariant-loop-line l =
    attributes_after (map (λ name. name.now) l.known) l.values (drop l.line-index l.lines) ≡ attributes_after (map (λ name. name.now) l.known) [] l.lines
