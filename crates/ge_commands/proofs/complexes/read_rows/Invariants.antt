use Rattle.std.proofs.Common.{◌≡◌, drop}
use Rattle.ge_model_grammar.specs.Lines.{read_each, read_after}
use Rattle.ge_model_grammar.specs.Bodies.{complex_line}
use Rattle.ge_commands.proofs.complexes.read_rows.Given as goal

abbrev pub invariant-loop-line : goal.invariant-loop-line
invariant-loop-line l = read_after complex_line l.rows (drop l.line-index l.lines) ≡ read_each complex_line l.lines
