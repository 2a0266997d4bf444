use Rattle.std.proofs.Common.{◌≡◌}
use Rattle.std.specs.List.{list_any}
use Rattle.std.specs.Map.{keys_of}
use Rattle.ge_model_rows.specs.Pieces.{is_one_of}
use Rattle.ge_config.proofs.uses.has_key_in.Given as goal

abbrev pub invariant-loop-name : goal.invariant-loop-name
invariant-loop-name g l = list_any (λ name. is_one_of name l.names) l.name-iterator ≡ list_any (λ name. is_one_of name l.names) (keys_of l.table)
