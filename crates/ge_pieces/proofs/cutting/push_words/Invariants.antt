use Rattle.std.proofs.Common.{◌≡◌, ◌++◌, take, map}
use Rattle.std.specs.Prelude.{filter, not}
use Rattle.ge_model_rows.specs.Pieces.{is_empty}
use Rattle.ge_pieces.proofs.cutting.push_words.Given as goal

abbrev pub invariant-loop-slice : goal.invariant-loop-slice
invariant-loop-slice l = l.words ≡ l.fn.words ++ filter (λ piece. not (is_empty piece)) (map (λ slice. slice.now) (take l.slice-index l.slice-items))
