use Rattle.ge_site.proofs.Going.{went_back}
use Rattle.ge_site.proofs.Steps.{fewer_back}
use Rattle.ge_site.proofs.walking.step.Goals as goal

pub returns-in-None-clause-comes : goal.returns-in-None-clause-comes
returns-in-None-clause-comes c =
    went_back c.args.groups.now c.args.way.now c.pop.new.self c.args.place.entries.now c.args.place.depth c.args.seen.now c.pop.result c.in-None.ensures.cases c.pop.ensures.last c.pop.ensures.none

pub returns-in-None-clause-ends : goal.returns-in-None-clause-ends
returns-in-None-clause-ends c = fewer_back c.args.groups.now c.args.way.now c.pop.new.self c.args.place.entries.now c.args.seen.now c.pop.result c.in-None.ensures.cases c.pop.ensures.last
