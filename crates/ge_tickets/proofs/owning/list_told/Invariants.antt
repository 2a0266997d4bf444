use Rattle.std.proofs.Common.{◌≡◌, take, map}
use Rattle.ge_collections.specs.Met.{AreFound}
use Rattle.ge_tickets.specs.Own.{told_tickets}
use Rattle.ge_tickets.proofs.owning.list_told.Given as goal

abbrev pub invariant-loop-number : goal.invariant-loop-number
invariant-loop-number l = (l.tickets ≡ map (told_tickets l.rows.entries) (take l.number-index l.numbers)) × AreFound l.rows.entries l.left
