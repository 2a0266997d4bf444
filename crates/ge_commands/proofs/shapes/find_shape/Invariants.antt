use Rattle.std.proofs.Common.{◌≡◌, map, drop}
use Rattle.ge_model_grammar.specs.Shapes.{shape_named}
use Rattle.ge_commands.specs.Shown.{shape_shown, known_in}
use Rattle.ge_commands.proofs.shapes.find_shape.Given as goal

abbrev pub invariant-loop-shape : goal.invariant-loop-shape
invariant-loop-shape l =
    shape_named (known_in l.taker (map shape_shown (drop l.shape-index l.table))) l.word
    ≡ shape_named (known_in l.taker (map shape_shown l.table)) l.word
