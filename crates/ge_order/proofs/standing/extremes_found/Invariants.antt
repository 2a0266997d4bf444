use Rattle.std.proofs.Common.{◌≡◌, fold, drop, None}
use Rattle.ge_order.specs.Standings.{with_lesser, with_greater}
use Rattle.ge_order.proofs.standing.extremes_found.Given as goal

abbrev pub invariant-loop-standing : goal.invariant-loop-standing
invariant-loop-standing l =
    (fold with_lesser l.low (drop l.standing-index l.standings) ≡ fold with_lesser None l.standings) × (fold with_greater l.high (drop l.standing-index l.standings) ≡ fold with_greater 0 l.standings)
