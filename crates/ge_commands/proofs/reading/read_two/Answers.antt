use Rattle.std.proofs.Common.{arith}
use Rattle.ge_commands.proofs.Lacking.{one_lacking}
use Rattle.ge_commands.proofs.reading.read_two.Goals as goal

pub returns-in-len1-clause-words : goal.returns-in-len1-clause-words
returns-in-len1-clause-words c = one_lacking c.args.form c.args.other c.args.words.now (omega (arith, c.in-len1.len_at_least, c.in-len1.len_below))
