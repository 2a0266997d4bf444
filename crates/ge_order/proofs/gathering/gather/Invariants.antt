use Rattle.std.proofs.Common.{◌≡◌, ◌++◌, map, fold, None}
use Rattle.ge_collections.specs.Met.{AreFound}
use Rattle.ge_model_order.specs.Amounts.{greatest}
use Rattle.ge_tickets.specs.Own.{told_tickets}
use Rattle.ge_order.specs.Alike.{gathered_in, urged_in}
use Rattle.ge_order.specs.Kinds.{TellJobs, told_standing}
use Rattle.ge_order.specs.Repeated.{Knows, IsWithin, standing}
use Rattle.ge_order.specs.Standings.{with_lesser, with_greater}
use Rattle.ge_order.specs.Told.{chosen}
use Rattle.ge_order.proofs.gathering.gather.Given as goal

abbrev pub invariant-loop-number : goal.invariant-loop-number
invariant-loop-number l =
    (TellJobs l.c l.rows.entries
    → (map standing (gathered_in l.gathering.lots.items l.gathering.last) ++ map (told_standing l.c l.rows.entries l.now) (chosen l.c l.now l.number-iterator)
    ≡ map (told_standing l.c l.rows.entries l.now) (chosen l.c l.now l.rows.entries))
    × Knows l.c l.rows.entries l.now l.gathering.kinds (urged_in l.gathering.last))
    × (map (λ x. x.tickets) (gathered_in l.gathering.lots.items l.gathering.last) ++ map (told_tickets l.rows.entries) (chosen l.c l.now l.number-iterator)
    ≡ map (told_tickets l.rows.entries) (chosen l.c l.now l.rows.entries))
    × AreFound l.rows.entries l.number-iterator
    × IsWithin l.gathering.bounds (urged_in l.gathering.last)
    × (l.gathering.bounds.low ≡ fold with_lesser None (map standing (gathered_in l.gathering.lots.items l.gathering.last)))
    × (l.gathering.bounds.high ≡ fold with_greater 0 (map standing (gathered_in l.gathering.lots.items l.gathering.last)))
    × (l.gathering.bounds.most ≡ greatest (map (λ x. x.tickets) (gathered_in l.gathering.lots.items l.gathering.last)))
