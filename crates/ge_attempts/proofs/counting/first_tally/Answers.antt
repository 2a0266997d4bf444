use Rattle.std.proofs.Common.{refl}
use Rattle.ge_attempts.proofs.Tallies.{tallied_first}
use Rattle.ge_attempts.proofs.counting.first_tally.Goals as goal

pub returns : goal.returns
returns c = tallied_first c.args.cluster.now (record { serial = c.args.cluster.now.next_serial; reserved = 0; running = c.in_ok-running.running }) refl refl c.in_ok-running.ensures
