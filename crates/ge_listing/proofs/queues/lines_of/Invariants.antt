use Rattle.std.proofs.Common.{◌≡◌, take, map}
use Rattle.ge_listing.specs.Taken.{line_with, slots_taken}
use Rattle.ge_listing.proofs.queues.lines_of.Given as goal

abbrev pub invariant-loop-at : goal.invariant-loop-at
invariant-loop-at l = l.lines ≡ map (λ at. line_with l.cluster l.groups (slots_taken l.taken.entries at) at) (take l.at-index l.instances)
