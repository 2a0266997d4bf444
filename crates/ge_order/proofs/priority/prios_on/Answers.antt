use Rattle.std.proofs.Common.{arith, ap, length, ◌∙◌}
use Rattle.std.proofs.lemmas.Slice.Zip.{either_empty_from_Zip, Zip-more}
use Rattle.ge_order.specs.Standings.{prio_of}
use Rattle.ge_order.proofs.Zipped.{zipped_out, zipped_more}
use Rattle.ge_order.proofs.priority.prios_on.Goals as goal

pub loop-standing-preserved : goal.loop-standing-preserved
loop-standing-preserved c =
    let before = c.loop-standing.invariant in
    let taken = Zip-more c.loop-standing.standing-iterator c.next.new.self _ _ c.in-Some.is c.next.ensures.steps in (
      zipped_more (prio_of c.args.sched.now c.args.scale.now) _ _ _ _ _ _ _ _ _ _ taken.0 taken.1 before.0 c.push_reserved.ensures.items (c.prio_at.ensures.prio before.1),
      c.prio_at.ensures.kept before.1,
      omega (arith, ap length taken.0, before.2, c.push_reserved.ensures.len, c.push_reserved.ensures.capacity),
    )

pub push_reserved-requires : goal.push_reserved-requires
push_reserved-requires c =
    let taken = Zip-more c.loop-standing.standing-iterator c.next.new.self _ _ c.in-Some.is c.next.ensures.steps in
    omega (arith, ap length taken.0, c.loop-standing.invariant.2)

pub returns : goal.returns
returns c =
    c.from_vec.ensures ∙ zipped_out (prio_of c.args.sched.now c.args.scale.now) _ _ _ _ c.loop-standing.invariant.0 (either_empty_from_Zip c.loop-standing.standing-iterator c.next.new.self _ c.in-None.is c.next.ensures.steps)
