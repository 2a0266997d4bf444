use Rattle.std.proofs.Common.{◌≡◌, length}
use Rattle.ge_model_rows.specs.Pieces.{without_first_blanks}
use Rattle.ge_pieces.proofs.cutting.without_first.Given as goal

abbrev pub invariant-loop-first : goal.invariant-loop-first
invariant-loop-first l = without_first_blanks l.rest ≡ without_first_blanks l.fn.text

abbrev pub decreases-loop-first : goal.decreases-loop-first
decreases-loop-first l = length l.rest
