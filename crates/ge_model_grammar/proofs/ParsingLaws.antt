-- A text is answered by its longest line first, and then by the grammar.
use Rattle.std.proofs.Common.{◌≡◌, ℕ, true, false, List, Err, ap}
use Rattle.ge_base.specs.declared.refusal.Refusal.TheVariants.{TooLong}
use Rattle.ge_model_grammar.specs.ScriptLines.{lines_of, has_long_line}
use Rattle.ge_model_grammar.specs.Commands.{command_of}
use Rattle.ge_model_grammar.specs.Parsing.{parsed, in_grammar}

-- a text with a long line is too long, whatever it is in the grammar
pub long_line : (text : List ℕ) → has_long_line (lines_of text) ≡ true → parsed text ≡ Err TooLong
unfolding parsed
long_line text is = ap (λ long. elim long [ true ↦ Err TooLong | false ↦ in_grammar (command_of text) ]) is

-- any other is what it is in the grammar
pub short_lines : (text : List ℕ) → has_long_line (lines_of text) ≡ false → parsed text ≡ in_grammar (command_of text)
unfolding parsed
short_lines text is = ap (λ long. elim long [ true ↦ Err TooLong | false ↦ in_grammar (command_of text) ]) is
