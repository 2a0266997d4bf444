use Rattle.std.proofs.Common.{◌≡◌, take, map}
use Rattle.std.specs.Prelude.{flat_map}
use Rattle.ge_model_rows.specs.Pieces.{pieces_at}
use Rattle.ge_request.proofs.options.items_of.Given as goal

abbrev pub invariant-loop-word : goal.invariant-loop-word
invariant-loop-word l = map (λ item. item.now) l.items.items ≡ flat_map (pieces_at 44) (take l.word-index l.words)
