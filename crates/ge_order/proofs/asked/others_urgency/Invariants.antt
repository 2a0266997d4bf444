use Rattle.std.proofs.Common.{◌≡◌, fold}
use Rattle.ge_order.specs.Standings.{with_other}
use Rattle.ge_order.specs.Standings as standings
use Rattle.ge_order.proofs.asked.others_urgency.Given as goal

abbrev pub invariant-loop-name : goal.invariant-loop-name
invariant-loop-name l = fold (with_other l.c l.slots) l.total l.name-iterator ≡ standings.others_urgency l.c l.slots l.asked
