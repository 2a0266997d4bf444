use Rattle.ge_collections.proofs.Walked.{further, found_here}
use Rattle.ge_collections.proofs.meeting.next_at.Goals as goal

pub returns-then-key-number-clause-found : goal.returns-then-key-number-clause-found
returns-then-key-number-clause-found g c =
    found_here _ _ _ _ _ c.loop-key.invariant c.in-Some.ensures.steps c.args.number c.if-key-number.true

pub returns-then-key-number-clause-others : goal.returns-then-key-number-clause-others
returns-then-key-number-clause-others g c = further _ _ _ _ _ c.loop-key.invariant c.in-Some.ensures.steps

pub returns-else-key-number-clause-others : goal.returns-else-key-number-clause-others
returns-else-key-number-clause-others g c = further _ _ _ _ _ c.loop-key.invariant c.in-Some.ensures.steps

pub loop-key-preserved : goal.loop-key-preserved
loop-key-preserved g c = further _ _ _ _ _ c.loop-key.invariant c.in-Some.ensures.steps
