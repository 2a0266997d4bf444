use Rattle.ge_laws.proofs.ToldTraces.{written_replies, told_replies}
use Rattle.ge_laws.proofs.plans.replies_tell_want_of_memory.Goals as goal

pub returns-clause-written : goal.returns-clause-written
returns-clause-written c = written_replies

pub returns-clause-told : goal.returns-clause-told
returns-clause-told c = told_replies
