use Rattle.std.proofs.Common.{Some, sym, ◌∙◌}
use Rattle.ge_attempts.proofs.Ends.{nearer, none_left, found_there, passed_on}
use Rattle.ge_attempts.proofs.reserving.reserve.Goals as goal

pub loop-end-preserved : goal.loop-end-preserved
loop-end-preserved c = record {
  from = passed_on c.args.at.now.cluster.now c.args.at.now.groups.now c.args.at.now.order.now c.args.at.now.moment c.args.booked.now (Some c.args.job.now) c.loop-end.moment c.in-Some.end c.loop-end.invariant.from
      (sym c.next_end_after.ensures ∙ c.in-Some.is) (sym c.in_ok-grants.ensures.placed ∙ c.in_default-2.is);
  left = c.in_ok-grants.ensures.left;
}

pub loop-end-smaller : goal.loop-end-smaller
loop-end-smaller c = nearer c.args.booked.now c.loop-end.moment c.in-Some.end (sym c.next_end_after.ensures ∙ c.in-Some.is)

pub returns-in-Some-2-clause-decided : goal.returns-in-Some-2-clause-decided
returns-in-Some-2-clause-decided c =
    found_there c.args.at.now.cluster.now c.args.at.now.groups.now c.args.at.now.order.now c.args.at.now.moment c.args.booked.now (Some c.args.job.now) c.loop-end.moment c.args.task c.in-Some.end c.in-Some-2.grants
    c.loop-end.invariant.from (sym c.next_end_after.ensures ∙ c.in-Some.is) (sym c.in_ok-grants.ensures.placed ∙ c.in-Some-2.is)

pub returns-clause-decided : goal.returns-clause-decided
returns-clause-decided c =
    none_left c.args.at.now.cluster.now c.args.at.now.groups.now c.args.at.now.order.now c.args.at.now.moment c.args.booked.now (Some c.args.job.now) c.loop-end.moment c.args.task c.loop-end.invariant.from
    (sym c.next_end_after.ensures ∙ c.in_default.is)
