use Rattle.ge_jobs.proofs.NarrowedRows.{clear_narrowed}
use Rattle.ge_jobs.proofs.clearing.clear_named.Goals as goal

pub returns-clause-ok : goal.returns-clause-ok
returns-clause-ok c =
    clear_narrowed c.in-Some.job.now c.in_ok-part.part c.args.named.now c.args.jobs.now c.clear.new.jobs c.args.number
    c.in-Some.ensures c.in_ok-part.ensures.cleared c.in_ok-clear.ensures.ok
