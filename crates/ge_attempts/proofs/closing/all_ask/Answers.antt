use Rattle.std.proofs.Common.{◌==◌, ◌∙◌, [], ap, length}
use Rattle.ge_job_index.specs.Asked.{bearers_of}
use Rattle.ge_rows.specs.Marks.{mark_of, job_marks}
use Rattle.ge_rows.specs.declared.marks.MarkSort.TheVariants as sort
use Rattle.ge_rows.specs.contracts.marks.JobMarkOrd.TheImpl as order
use Rattle.ge_attempts.proofs.AskedMarks.{as_many}
use Rattle.ge_attempts.proofs.closing.all_ask.Goals as goal

pub returns : goal.returns
returns c =
    c.are_so_many.ensures
    ∙ (λ i. length (c.in_ok-bearers.ensures i) == c.len.ensures.len i)
    ∙ ap (λ mark. length (bearers_of order.ghosts.cmp job_marks mark c.args.jobs.now) == length c.args.jobs.now) c.in_ok-mark.ensures
    ∙ ap (λ name. length (bearers_of order.ghosts.cmp job_marks (mark_of sort.Attribute name [] 0) c.args.jobs.now) == length c.args.jobs.now) c.bytes.ensures
    ∙ as_many c.args.name.now c.args.jobs.now
