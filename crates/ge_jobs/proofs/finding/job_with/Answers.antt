use Rattle.std.proofs.Common.{◌∙◌}
use Rattle.std.specs.List.{list_any}
use Rattle.std.specs.BTreeMap.{is_at}
use Rattle.ge_rows.specs.declared.marks.MarkSort.TheVariants as sort
use Rattle.ge_rows.specs.Marks.{mark_of, job_marks}
use Rattle.ge_rows.specs.contracts.marks.JobMarkOrd.TheImpl as order
use Rattle.ge_jobs.proofs.Serials.{bears_serial, same_find}
use Rattle.ge_jobs.proofs.finding.job_with.Goals as goal

pub returns : goal.returns
returns c =
    c.find.ensures
    ∙ same_find _ _ c.args.jobs.now (λ row.
    (λ i. list_any (is_at (order.ghosts.cmp (mark_of sort.Serial (c.new.ensures i) (c.new-2.ensures i) c.args.serial))) (job_marks row.1))
    ∙ bears_serial c.args.serial row)
