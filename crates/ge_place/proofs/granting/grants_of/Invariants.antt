use Rattle.std.proofs.Common.{◌≡◌, ◌++◌, drop}
use Rattle.std.specs.List.{filter_map}
use Rattle.ge_model_place.specs.Placement.{grant_of}
use Rattle.ge_place.specs.Spots.{cells_with}
use Rattle.ge_place.proofs.granting.grants_of.Given as goal

abbrev pub invariant-loop-place : goal.invariant-loop-place
invariant-loop-place l =
    l.grants ++ filter_map grant_of (cells_with (drop l.place l.spots) (drop l.place l.slots)) ≡ filter_map grant_of (cells_with l.spots l.slots)
