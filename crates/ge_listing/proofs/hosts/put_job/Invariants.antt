use Rattle.std.proofs.Common.{◌≡◌}
use Rattle.std.specs.Prelude.{fold}
use Rattle.ge_listing.specs.Gathered.{with_order, with_orders}
use Rattle.ge_listing.proofs.hosts.put_job.Given as goal

abbrev pub invariant-loop-task : goal.invariant-loop-task
invariant-loop-task l = fold (with_order l.host l.number) l.texts.entries l.task-iterator ≡ with_orders l.host l.fn.texts.entries (l.number, l.job)
