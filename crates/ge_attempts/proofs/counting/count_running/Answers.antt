use Rattle.std.proofs.Common.{[]}
use Rattle.ge_attempts.proofs.Tallies.{uncounted, counted_first}
use Rattle.ge_attempts.proofs.counting.count_running.Goals as goal

pub returns-then-bound-eq0 : goal.returns-then-bound-eq0
returns-then-bound-eq0 c = uncounted c.args.cluster.now [] c.new.result c.if-bound-eq0.true

pub returns : goal.returns
returns c = counted_first c.args.cluster.now c.in_ok-running.running c.in_ok-running.ensures
