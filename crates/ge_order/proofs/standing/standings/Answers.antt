use Rattle.std.proofs.Common.{◌∙◌}
use Rattle.ge_order.proofs.OneKind.{rows_tell, all_told}
use Rattle.ge_order.proofs.standing.standings.Goals as goal

pub returns-in_ok-standings-in-Some : goal.returns-in_ok-standings-in-Some
returns-in_ok-standings-in-Some c =
    let tell = rows_tell c.args.c.now c.in-Some.shorts.rows.now.entries c.in-Some.shorts.bound c.in-Some.ensures c.orderly.ensures.rows in
    c.in_ok-standings-in-Some.ensures tell ∙ all_told c.args.c.now c.in-Some.shorts.rows.now.entries c.args.now c.args.jobs.now tell
