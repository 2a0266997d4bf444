use Rattle.std.proofs.Common.{◌≡◌, ◌≤◌, length, map, take}
use Rattle.ge_collections.specs.Met.{AreFound}
use Rattle.ge_order.specs.Kinds.{TellJobs, AreAsked, told_standing}
use Rattle.ge_order.proofs.telling.standings_told.Given as goal

abbrev pub invariant-loop-number : goal.invariant-loop-number
invariant-loop-number l =
    (TellJobs l.c l.rows.entries → (l.standings.items ≡ map (told_standing l.c l.rows.entries l.now) (take l.number-index l.jobs)) × AreFound l.rows.entries l.left × AreAsked l.c l.rows.entries l.kinds)
    × (l.standings.len ≡ l.number-index) × (length l.jobs ≤ l.standings.cap)
