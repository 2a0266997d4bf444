use Rattle.ge_attempts.proofs.Looked.{found_short, found_nothing}
use Rattle.ge_attempts.proofs.looking.found_then.Goals as goal

pub returns-in-TooLittle : goal.returns-in-TooLittle
returns-in-TooLittle c =
    found_short c.args.look.now.booked.now c.args.look.now.from c.args.look.now.asked.now c.args.rests.now c.loop-rest.rest-index c.rest-item.result c.found_of.result c.loop-rest-test.true c.rest-item.is c.found_of.ensures c.in-TooLittle.is

pub returns-in-Nothing : goal.returns-in-Nothing
returns-in-Nothing c =
    found_nothing c.args.look.now.booked.now c.args.look.now.from c.args.look.now.asked.now c.args.rests.now c.loop-rest.rest-index c.rest-item.result c.found_of.result c.loop-rest-test.true c.rest-item.is c.found_of.ensures c.in-Nothing.is
