use Rattle.std.proofs.Common.{◌≡◌, ◌-◌, ◌≤◌, ◌++◌, drop, length}
use Rattle.std.specs.Prelude.{flat_map}
use Rattle.ge_model_grammar.specs.ScriptLines.{lines_of, text_of, next_content}
use Rattle.ge_script.proofs.texts.text_of_lines.Given as goal

-- the text so far, and the lines that are left, are the whole text
abbrev pub invariant-loop-at : goal.invariant-loop-at
invariant-loop-at l = record {
  within : l.at ≤ length l.lines;
  whole : l.text ++ flat_map next_content (lines_of (drop l.at l.lines)) ≡ text_of (lines_of l.lines);
}

abbrev pub decreases-loop-at : goal.decreases-loop-at
decreases-loop-at l = length l.lines - l.at
