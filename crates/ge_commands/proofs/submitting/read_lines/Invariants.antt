use Rattle.std.proofs.Common.{◌≡◌, [], drop}
use Rattle.ge_model_grammar.specs.Commands.{options_after}
use Rattle.ge_commands.specs.Lent.{texts}
use Rattle.ge_commands.specs.Shown.{all_shown}
use Rattle.ge_commands.proofs.submitting.read_lines.Given as goal

abbrev pub invariant-loop-line : goal.invariant-loop-line
invariant-loop-line l = options_after (all_shown l.given.items) (texts (drop l.line-index l.lines)) ≡ options_after [] (texts l.lines)
