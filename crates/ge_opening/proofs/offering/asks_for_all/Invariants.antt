use Rattle.std.proofs.Common.{◌≡◌}
use Rattle.std.specs.List.{list_all}
use Rattle.ge_model_place.specs.Opening.{meets_forced}
use Rattle.ge_opening.proofs.offering.asks_for_all.Given as goal

abbrev pub invariant-loop-name : goal.invariant-loop-name
invariant-loop-name l =
    list_all (meets_forced l.here.cluster.now l.here.groups.now l.job l.here.at.now l.here.queue.now) l.name-iterator
    ≡ list_all (meets_forced l.here.cluster.now l.here.groups.now l.job l.here.at.now l.here.queue.now) l.here.cluster.now.complexes
