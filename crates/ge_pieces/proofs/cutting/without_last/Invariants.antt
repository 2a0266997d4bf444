use Rattle.std.proofs.Common.{◌≡◌, length}
use Rattle.ge_model_rows.specs.Pieces.{without_last_blanks}
use Rattle.ge_pieces.proofs.cutting.without_last.Given as goal

abbrev pub invariant-loop-last : goal.invariant-loop-last
invariant-loop-last l = without_last_blanks l.rest ≡ without_last_blanks l.fn.text

abbrev pub decreases-loop-last : goal.decreases-loop-last
decreases-loop-last l = length l.rest
