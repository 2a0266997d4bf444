use Rattle.std.proofs.Common.{◌≡◌, drop}
use Rattle.ge_model_grammar.specs.Options.{option_words}
use Rattle.ge_commands.proofs.naming.words_in.Given as goal

abbrev pub invariant-loop-key : goal.invariant-loop-key
invariant-loop-key l = option_words (drop l.key-index l.items) l.name ≡ option_words l.items l.name
