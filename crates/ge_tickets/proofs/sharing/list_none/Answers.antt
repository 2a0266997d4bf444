use Rattle.std.proofs.Common.{refl}
use Rattle.ge_tickets.specs.Listed.{no_tickets}
use Rattle.ge_collections.proofs.Turns.{listed_more}
use Rattle.ge_tickets.proofs.sharing.list_none.Goals as goal

pub loop-number-preserved : goal.loop-number-preserved
loop-number-preserved c =
    listed_more no_tickets c.args.numbers.now c.loop-number._number-index 0 _ _ _ c.loop-number-test.true c.loop-number.invariant refl c.in_ok-push.ensures.ok
