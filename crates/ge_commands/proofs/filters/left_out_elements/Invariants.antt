use Rattle.std.proofs.Common.{◌≡◌, take, drop, map}
use Rattle.std.specs.Prelude.{filter}
use Rattle.ge_model_grammar.specs.Rules.{is_without}
use Rattle.ge_commands.proofs.filters.left_out_elements.Given as goal

abbrev pub invariant-loop-element : goal.invariant-loop-element
invariant-loop-element l = l.without ≡ map (drop 1) (filter is_without (map (λ e. e.now) (take l.element-index l.elements)))
