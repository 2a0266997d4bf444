use Rattle.std.proofs.Common.{◌≡◌, ◌++◌, take, map}
use Rattle.std.specs.Prelude.{flat_map}
use Rattle.ge_model_rows.specs.Pieces.{items_between}
use Rattle.ge_pieces.proofs.cutting.push_all_items.Given as goal

abbrev pub invariant-loop-slice : goal.invariant-loop-slice
invariant-loop-slice l = l.items ≡ l.fn.items ++ flat_map items_between (map (λ slice. slice.now) (take l.slice-index l.slices))
