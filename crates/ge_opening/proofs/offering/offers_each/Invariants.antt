use Rattle.std.proofs.Common.{◌≡◌, ◌&&◌}
use Rattle.std.specs.List.{list_all}
use Rattle.ge_model_place.specs.Opening.{admits_value, consumes_what_is}
use Rattle.ge_opening.proofs.offering.offers_each.Given as goal

abbrev pub invariant-loop-name : goal.invariant-loop-name
invariant-loop-name l =
    list_all (λ one. admits_value l.here.cluster.now l.here.groups.now l.here.at.now one && consumes_what_is l.here.cluster.now l.here.groups.now l.here.at.now l.here.queue.now one) l.name-iterator
    ≡ list_all (λ one. admits_value l.here.cluster.now l.here.groups.now l.here.at.now one && consumes_what_is l.here.cluster.now l.here.groups.now l.here.at.now l.here.queue.now one) l.asked
