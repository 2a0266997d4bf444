use Rattle.std.proofs.Common.{◌≡◌, drop}
use Rattle.std.specs.Prelude.{fold}
use Rattle.ge_model_rows.specs.Pieces.{with_one_number}
use Rattle.ge_config.proofs.sets.IdSet.add_all.Given as goal

abbrev pub invariant-loop-id : goal.invariant-loop-id
invariant-loop-id l = fold with_one_number l.self (drop l.id-index l.ids) ≡ fold with_one_number l.fn.self l.ids
