-- Worked rows of texts as they are parsed, each by computation.
use Rattle.std.specs.Prelude.{◌≡◌, Ok, Err, codes, refl}
use Rattle.ge_base.specs.declared.refusal.Refusal.TheVariants.{Syntax}
use Rattle.ge_model_rows.specs.CommandRows.{Command}
use Rattle.ge_model_grammar.specs.Commands.{grammar_of_commands}
use Rattle.ge_model_grammar.specs.Parsing.{parsed}

a_command : parsed (codes "sched") ≡ Ok Command.Sched
unfolding parsed grammar_of_commands
a_command = refl

no_command : parsed (codes "sched now") ≡ Err Syntax
unfolding parsed grammar_of_commands
no_command = refl

nothing : parsed (codes "") ≡ Err Syntax
unfolding parsed grammar_of_commands
nothing = refl
