use Rattle.std.proofs.Common.{◌≡◌, drop, map}
use Rattle.std.specs.List.{list_all}
use Rattle.ge_model_grammar.specs.Rules.{is_element}
use Rattle.ge_commands.proofs.filters.are_elements.Given as goal

abbrev pub invariant-loop-element : goal.invariant-loop-element
invariant-loop-element l = list_all is_element (map (λ e. e.now) (drop l.element-index l.elements)) ≡ list_all is_element (map (λ e. e.now) l.elements)
