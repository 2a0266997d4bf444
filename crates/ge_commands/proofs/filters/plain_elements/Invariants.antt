use Rattle.std.proofs.Common.{◌≡◌, take, map}
use Rattle.std.specs.Prelude.{filter, not}
use Rattle.ge_model_grammar.specs.Rules.{is_without}
use Rattle.ge_commands.proofs.filters.plain_elements.Given as goal

abbrev pub invariant-loop-element : goal.invariant-loop-element
invariant-loop-element l = l.plain ≡ filter (λ element. not (is_without element)) (map (λ e. e.now) (take l.element-index l.elements))
