use Rattle.std.proofs.Common.{sym}
use Rattle.ge_attempts.proofs.LeastAsked.{least_of_consumable}
use Rattle.ge_attempts.proofs.amounts.least_of.Goals as goal

pub returns-in-Some : goal.returns-in-Some
returns-in-Some c =
    least_of_consumable c.args.cluster.now c.args.name.now c.in-Some.complex.now c.least_asked.result (sym c.if-is_slots.ensures) (sym c.if-not-is_consumable.ensures) (sym c.in-Some.ensures)
    c.least_asked.ensures.cut c.least_asked.ensures.least
