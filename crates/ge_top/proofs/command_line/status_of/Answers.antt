use Rattle.ge_top.proofs.command_line.status_of.Goals as goal

pub returns-in-Ok-clause-usage : goal.returns-in-Ok-clause-usage
returns-in-Ok-clause-usage g c = rw c.in-Ok.is c.gridmaster.ensures.usage
