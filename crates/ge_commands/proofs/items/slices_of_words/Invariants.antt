use Rattle.std.proofs.Common.{◌≡◌, take}
use Rattle.ge_model_grammar.specs.Targets.{items_of}
use Rattle.ge_commands.specs.Lent.{texts}
use Rattle.ge_commands.proofs.items.slices_of_words.Given as goal

abbrev pub invariant-loop-word : goal.invariant-loop-word
invariant-loop-word l = texts l.items.items ≡ items_of (texts (take l.word-index l.words))
