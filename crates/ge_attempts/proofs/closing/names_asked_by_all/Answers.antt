use Rattle.ge_attempts.specs.Closing.{asked_by_all}
use Rattle.ge_attempts.proofs.Closed.{all_with}
use Rattle.ge_attempts.proofs.closing.names_asked_by_all.Goals as goal

pub loop-name-preserved : goal.loop-name-preserved
loop-name-preserved c =
    all_with (asked_by_all c.args.at.now.cluster.now) c.loop-name.names c.add_asked_by_all.new.names c.in-Some.name.now c.loop-name.invariant c.in_ok-add_asked_by_all.ensures
