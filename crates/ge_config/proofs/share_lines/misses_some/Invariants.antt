use Rattle.std.proofs.Common.{◌≡◌, drop, map, filter}
use Rattle.std.specs.Prelude.{IsTrue, is_none}
use Rattle.std.specs.List.{list_any}
use Rattle.ge_collections.specs.Keyed.{at_number}
use Rattle.ge_model_rows.specs.Pieces.{is_digits, number_of}
use Rattle.ge_config.specs.ShareTree.{has_short_ids}
use Rattle.ge_config.proofs.share_lines.misses_some.Given as goal

abbrev pub invariant-loop-item : goal.invariant-loop-item
invariant-loop-item l = IsTrue (has_short_ids l.table) → list_any (λ child. is_none (at_number l.table child)) (map number_of (filter is_digits (drop l.item-index l.items))) ≡ list_any (λ child. is_none (at_number l.table child)) (map number_of (filter is_digits l.items))
