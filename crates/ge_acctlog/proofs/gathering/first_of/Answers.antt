use Rattle.std.proofs.Common.{arith, sym}
use Rattle.std.proofs.lemmas.List.{take_all, drop_all}
use Rattle.ge_acctlog.proofs.gathering.first_of.Goals as goal

pub returns-then-lines-each-clause-first : goal.returns-then-lines-each-clause-first
returns-then-lines-each-clause-first c = sym (take_all c.args.each c.args.lines.now (omega arith))

pub returns-then-lines-each-clause-others : goal.returns-then-lines-each-clause-others
returns-then-lines-each-clause-others c = sym (drop_all c.args.each c.args.lines.now (omega arith))
