use Rattle.std.proofs.Common.{◌≡◌, drop, map}
use Rattle.ge_model_grammar.specs.Bodies.{body_lines}
use Rattle.ge_pieces.specs.BodyLines.{lines_after}
use Rattle.ge_pieces.proofs.body_lines.lines_of_body.Given as goal

abbrev pub invariant-loop-next : goal.invariant-loop-next
invariant-loop-next l = lines_after l.lines l.line (map (λ slice. slice.now) (drop l.next-index l.next-items)) ≡ body_lines l.body
