use Rattle.std.proofs.Common.{◌≡◌, take, None}
use Rattle.ge_model_grammar.specs.Shapes.{words_in}
use Rattle.ge_commands.specs.Shown.{shape_shown, all_shown}
use Rattle.ge_commands.proofs.merging.is_given.Given as goal

-- none so far has the name
abbrev pub invariant-loop-option : goal.invariant-loop-option
invariant-loop-option l = words_in (all_shown (take l.option-index l.given)) (shape_shown l.shape) ≡ None
