use Rattle.ge_attempts.proofs.OneKind.{told, none_told}
use Rattle.ge_attempts.proofs.kinds.kinds_of.Goals as goal

pub returns-in-Some : goal.returns-in-Some
returns-in-Some c = told c.args.cluster.now.jobs c.in-Some.shorts.rows.now.entries c.in-Some.shorts.bound c.in-Some.ensures

pub returns-in-None : goal.returns-in-None
returns-in-None c = none_told c.args.cluster.now.jobs c.args.none.now.entries c.requires
