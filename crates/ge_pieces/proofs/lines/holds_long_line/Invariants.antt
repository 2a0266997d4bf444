use Rattle.std.proofs.Common.{◌≡◌, ◌-◌, ◌≤◌, drop, length}
use Rattle.ge_model_grammar.specs.ScriptLines.{lines_of, has_long_line}
use Rattle.ge_pieces.proofs.lines.holds_long_line.Given as goal

-- no line so far was long
abbrev pub invariant-loop-at : goal.invariant-loop-at
invariant-loop-at l = record {
  within : l.at ≤ length l.text;
  rest : has_long_line (lines_of (drop l.at l.text)) ≡ has_long_line (lines_of l.text);
}

abbrev pub decreases-loop-at : goal.decreases-loop-at
decreases-loop-at l = length l.text - l.at
