use Rattle.std.proofs.Common.{◌≡◌, ◌≤◌, ◌-◌, length, map, drop}
use Rattle.ge_model_grammar.specs.Shapes.{options_from, read_options}
use Rattle.ge_commands.specs.Lent.{texts}
use Rattle.ge_commands.specs.Shown.{shape_shown, known_in, all_shown}
use Rattle.ge_commands.proofs.reading.read_front.Given as goal

abbrev pub invariant-loop-at : goal.invariant-loop-at
invariant-loop-at l = record {
  rest : options_from (known_in l.taker (map shape_shown l.table)) (all_shown l.given.items) 0 (texts (drop l.at l.words))
      ≡ read_options (known_in l.taker (map shape_shown l.table)) (texts l.words);
  within : l.at ≤ length l.words;
}

abbrev pub decreases-loop-at : goal.decreases-loop-at
decreases-loop-at l = length l.words - l.at
