use Rattle.std.proofs.Common.{ℕ, subst}
use Rattle.ge_rows.specs.declared.marks.JobMark.{JobMark}
use Rattle.ge_job_options.specs.Holding.{PutsName}
use Rattle.ge_job_options.proofs.Owned.{names_more}
use Rattle.ge_job_options.proofs.owners.names_of.Goals as goal

pub loop-pair-preserved : goal.loop-pair-preserved
loop-pair-preserved c =
    names_more c.args.jobs.now c.args.marked.now c.loop-pair.pair-index c.pair-item.result c.loop-pair.names.entries c.put_name.new.names.entries c.loop-pair-test.true
    (subst (λ (p : JobMark × ℕ). PutsName c.args.jobs.now c.loop-pair.names.entries c.put_name.new.names.entries p.1) c.pair-item.is c.in_ok-put_name.ensures)
    c.loop-pair.invariant
