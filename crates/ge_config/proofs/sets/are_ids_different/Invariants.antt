use Rattle.std.proofs.Common.{◌≡◌, drop}
use Rattle.ge_model_config.specs.Shares.{are_different}
use Rattle.ge_config.proofs.Distinct.{are_new, is_id}
use Rattle.ge_config.proofs.sets.are_ids_different.Given as goal

abbrev pub invariant-loop-id : goal.invariant-loop-id
invariant-loop-id l = are_new is_id l.seen (drop l.id-index l.ids) ≡ are_different l.ids
