use Rattle.std.proofs.Common.{◌≤◌, take}
use Rattle.std.specs.Prelude.{filter}
use Rattle.ge_collections.specs.Keyed.{text_eq}
use Rattle.ge_listing.specs.Sums.{AreSums}
use Rattle.ge_listing.proofs.summing.sums_of_owner.Given as goal

-- the sums so far, of no more lines than were met
abbrev pub invariant-loop-line : goal.invariant-loop-line
invariant-loop-line l = AreSums l.sums (filter (λ line. text_eq line.owner l.owner) (take l.line-index l.lines)) × (l.sums.count ≤ l.line-index)
