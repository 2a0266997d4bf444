use Rattle.std.proofs.Common.{◌≡◌, take}
use Rattle.std.specs.Option.{option_map}
use Rattle.ge_model_grammar.specs.Shapes.{words_in}
use Rattle.ge_commands.specs.Shown.{shape_shown, all_shown}
use Rattle.ge_commands.proofs.merging.words_of.Given as goal

abbrev pub invariant-loop-option : goal.invariant-loop-option
invariant-loop-option l = option_map (λ words. words.items) l.words ≡ words_in (all_shown (take l.option-index l.given)) (shape_shown l.shape)
