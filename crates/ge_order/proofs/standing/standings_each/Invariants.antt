use Rattle.std.proofs.Common.{◌≡◌, map, take}
use Rattle.ge_order.specs.Standings.{standing_of}
use Rattle.ge_order.proofs.standing.standings_each.Given as goal

abbrev pub invariant-loop-number : goal.invariant-loop-number
invariant-loop-number l = l.standings.items ≡ map (standing_of l.c l.now) (take l.number-index l.jobs)
