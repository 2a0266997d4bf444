use Rattle.std.proofs.Common.{◌≡◌, take, map}
use Rattle.ge_request.proofs.places.texts_of.Given as goal

abbrev pub invariant-loop-slice : goal.invariant-loop-slice
invariant-loop-slice l = l.texts ≡ map (λ w. w.now) (take l.slice-index l.slices)
