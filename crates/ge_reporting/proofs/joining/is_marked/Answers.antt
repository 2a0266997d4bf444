use Rattle.std.proofs.Common.{◌∙◌}
use Rattle.std.specs.List.{list_any}
use Rattle.std.specs.BTreeMap.{is_at}
use Rattle.ge_rows.specs.declared.marks.MarkSort.TheVariants as sort
use Rattle.ge_rows.specs.Marks.{mark_of, job_marks}
use Rattle.ge_rows.specs.contracts.marks.JobMarkOrd.TheImpl as order
use Rattle.ge_model_jobs.proofs.BorneMarks.{borne_is_joined}
use Rattle.ge_reporting.proofs.joining.is_marked.Goals as goal

pub returns : goal.returns
returns c =
    c.is_borne.ensures
    ∙ (λ i. list_any (λ row. list_any (is_at (order.ghosts.cmp (mark_of sort.Advance (c.new.ensures i) (c.new-2.ensures i) c.args.number))) (job_marks row.1)) c.args.jobs.now)
    ∙ borne_is_joined c.args.number c.requires c.args.jobs.now
