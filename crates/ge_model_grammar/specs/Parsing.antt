-- What a text is answered with as a command.
use Rattle.std.specs.Prelude.{ℕ, true, false, List, Option, Some, None, Result, Ok, Err}
use Rattle.ge_base.specs.declared.refusal.Refusal.{Refusal}
use Rattle.ge_base.specs.declared.refusal.Refusal.TheVariants.{Syntax, TooLong}
use Rattle.ge_model_rows.specs.CommandRows.{Command}
use Rattle.ge_model_grammar.specs.ScriptLines.{lines_of, has_long_line}
use Rattle.ge_model_grammar.specs.Commands.{command_of}

-- a command, or a syntax error where the text isn't in the grammar
abbrev pub in_grammar : Option Command → Result Command Refusal
in_grammar None = Err Syntax
in_grammar (Some command) = Ok command

-- a text of which a line has more than 65,536 bytes is too long, however long the whole is; else it is the command that it is in the grammar
unfoldable pub parsed : List ℕ → Result Command Refusal
parsed text = elim (has_long_line (lines_of text)) [ true ↦ Err TooLong | false ↦ in_grammar (command_of text) ]
