use Rattle.std.proofs.Common.{ap}
use Rattle.std.specs.Prelude.{map}
use Rattle.ge_model_grammar.specs.Events.{event_of}
use Rattle.ge_top.proofs.Tallied.{tallied-none, tallied-more, tallied-room, tallied-all, tallied-stopped, tallied-at, events-begin, events-few}
use Rattle.ge_top.proofs.trying.count_requests.Goals as goal

pub requests-init : goal.requests-init
requests-init c =
    tallied-none _ _ _ _ _ c.new-tally.ensures.requests c.new-tally.ensures.accepted c.new-tally.ensures.starts (events-begin c.args.number _ c.new-generator.ensures) c.in_ok-cluster.ensures

pub count_event-requires : goal.count_event-requires
count_event-requires c =
    tallied-room _ _ _ _ _ c.in_ok-event.event
    (tallied-at _ _ _ _ _ _ c.in-Ok-Some.request c.in_ok-event.event c.requests.invariant (rw c.in-Ok-Some.field-0-is at c.in-Ok-Some.ensures.next) (rw c.bytes.ensures at c.in_ok-event.ensures))
    (events-few c.args.number c.ranges.number.fits)

pub returns-then-stops : goal.returns-then-stops
returns-then-stops c =
    tallied-stopped _ _ _ _ c.args.number _ c.in_ok-event.event
    (tallied-at _ _ _ _ _ _ c.in-Ok-Some.request c.in_ok-event.event c.requests.invariant (rw c.in-Ok-Some.field-0-is at c.in-Ok-Some.ensures.next) (rw c.bytes.ensures at c.in_ok-event.ensures))
    (rw c.if-stops.true at c.in_ok-stops.ensures)

pub requests-preserved : goal.requests-preserved
requests-preserved c =
    tallied-more _ _ _ _ _ _ _ c.in_ok-event.event
    (tallied-at _ _ _ _ _ _ c.in-Ok-Some.request c.in_ok-event.event c.requests.invariant (rw c.in-Ok-Some.field-0-is at c.in-Ok-Some.ensures.next) (rw c.bytes.ensures at c.in_ok-event.ensures))
    (rw c.if-stops.false at c.in_ok-stops.ensures)

pub returns-in-Ok-None : goal.returns-in-Ok-None
returns-in-Ok-None c =
    let none = rw c.in-Ok-None.field-0-is at c.in-Ok-None.ensures.next in
    tallied-all _ _ c.args.number _ c.requests.invariant (ap (map event_of) none.0)
