use Rattle.std.proofs.Common.{◌≡◌, drop, map}
use Rattle.ge_model_rows.specs.Pieces.{is_one_of}
use Rattle.ge_pieces.proofs.comparing.is_in.Given as goal

abbrev pub invariant-loop-word : goal.invariant-loop-word
invariant-loop-word l = is_one_of l.text (map (λ word. word.now) (drop l.word-index l.words)) ≡ is_one_of l.text (map (λ word. word.now) l.words)
