use Rattle.std.proofs.Common.{◌∙◌, ◌+◌, ap}
use Rattle.std.specs.Map.Iter.{deref_pair}
use Rattle.std.proofs.lemmas.Map.Iter.{rest_more}
use Rattle.ge_model_place.specs.Running.{running_in}
use Rattle.ge_model_rows.specs.JobRows.{Job}
use Rattle.ge_attempts.specs.Counts.{count_at}
use Rattle.ge_attempts.proofs.Tallies.{none_yet, one_more_job, all_counted}
use Rattle.ge_attempts.proofs.counting.count_all.Goals as goal

pub loop-number-init : goal.loop-number-init
loop-number-init c = λ q.
    none_yet (running_in q) c.new-running.result q c.into_iter-number-iterator.result c.args.cluster.now.jobs c.new-running.ensures
    (c.into_iter-number-iterator.ensures.into_iter_gives ∙ c.iter-number-items.ensures.rest)

pub loop-number-preserved : goal.loop-number-preserved
loop-number-preserved c = λ q.
    one_more_job (running_in q) c.in-Some._number.now c.in-Some.row.now c.loop-number._number-iterator c.next.new.self _ _ _
    (rest_more deref_pair c.loop-number._number-iterator c.next.new.self c.next.result (c.in-Some._number, c.in-Some.row) c.in-Some.is c.next.ensures.steps) (c.loop-number.invariant q)
    (c.in_ok-count_job.ensures q ∙ ap (λ (job : Job). count_at c.loop-number.running q + running_in q (0, job)) c.job.ensures)

pub returns : goal.returns
returns c = λ q. all_counted (running_in q) c.loop-number._number-iterator _ _ c.in-None.ensures.steps.0 (c.loop-number.invariant q)
