use Rattle.std.proofs.Common.{◌∙◌}
use Rattle.ge_order.proofs.Told.{chosen_same}
use Rattle.ge_order.proofs.choosing.candidates.Goals as goal

pub returns-in_ok-numbers-in-Some : goal.returns-in_ok-numbers-in-Some
returns-in_ok-numbers-in-Some c =
    c.in_ok-numbers-in-Some.ensures ∙ chosen_same c.args.c.now c.args.now c.in-Some.shorts.bound c.in-Some.shorts.rows.now.entries c.in-Some.ensures c.orderly.ensures.rising c.orderly.ensures.rows
