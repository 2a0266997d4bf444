use Rattle.ge_tickets.proofs.Raised.{raised}
use Rattle.ge_tickets.proofs.counting.raise.Goals as goal

pub returns-in_ok-_before-in-Some : goal.returns-in_ok-_before-in-Some
returns-in_ok-_before-in-Some c =
    raised c.args.counts.now c.insert.new.self c.args.name.now c.in_ok-twin-in-Some.field-0 c.count_of.result c.in-Some.more c.in_ok-twin-in-Some.ensures c.count_of.ensures c.in-Some.ensures.1
    c.in_ok-_before-in-Some.ensures.ok
