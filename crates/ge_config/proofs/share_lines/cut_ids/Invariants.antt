use Rattle.std.proofs.Common.{◌≡◌, ◌++◌, drop, map, filter}
use Rattle.ge_model_rows.specs.Pieces.{is_digits, number_of}
use Rattle.ge_model_config.specs.Shares.{id_cut}
use Rattle.ge_config.proofs.share_lines.cut_ids.Given as goal

abbrev pub invariant-loop-item : goal.invariant-loop-item
invariant-loop-item l = l.ids ++ map id_cut (map number_of (filter is_digits (drop l.item-index l.items))) ≡ map id_cut (map number_of (filter is_digits l.items))
