use Rattle.std.proofs.Common.{sym, subst}
use Rattle.ge_attempts.specs.Counts.{IsTallied}
use Rattle.ge_scheduling.proofs.Shut.{none_shut}
use Rattle.ge_scheduling.proofs.advancing.begin.Goals as goal

pub returns-clause-follows : goal.returns-clause-follows
returns-clause-follows c =
    record {
      told = c.requires.told;
      tallied = subst (λ decisions. IsTallied c.args.at.now.cluster.now decisions c.in_ok-tally.tally) (sym c.new.ensures) c.in_ok-tally.ensures;
      waits = tt;
      shut = none_shut c.args.at.now.cluster.now c.args.at.now.groups.now c.args.at.now.order.now c.args.at.now.moment c.args.at.now.kinds.now.entries c.args.booked c.new.result c.new-2.result c.new-2.ensures.empty;
      left = c.in_ok-room.ensures;
    }
