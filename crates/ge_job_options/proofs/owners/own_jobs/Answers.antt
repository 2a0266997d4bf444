use Rattle.std.proofs.Common.{ap, ◌∙◌, ◌&&◌, cond, None, List, [], ℕ}
use Rattle.ge_job_index.specs.Asked.{bears, is_between}
use Rattle.ge_collections.specs.Keyed.{at_number}
use Rattle.ge_rows.specs.Marks.{job_marks, mark_of}
use Rattle.ge_rows.specs.declared.marks.MarkSort.TheVariants as sort
use Rattle.ge_rows.specs.contracts.marks.JobMarkOrd.TheImpl as order
use Rattle.ge_rows.specs.declared.marks.JobMark.{JobMark}
use Rattle.ge_job_options.specs.Holding.{name_at, is_keyed}
use Rattle.ge_job_options.proofs.Owned.{jobs_named}
use Rattle.ge_job_options.proofs.owners.own_jobs.Goals as goal

pub returns : goal.returns
returns c =
    jobs_named c.args.owner.now c.in_ok-marked.marked.items c.args.jobs.now c.in_ok-names.names.entries c.len-count.ensures.rising c.in_ok-names.ensures.rising
    (λ mark key. c.in_ok-marked.ensures.members mark key
    ∙ (λ i. is_between order.ghosts.cmp ((c.in_ok-low.ensures ∙ ap (λ (bs : List ℕ). mark_of sort.Owner bs [] 0) c.bytes.ensures) i) (c.in_ok-high.ensures i) mark && bears order.ghosts.cmp job_marks mark (at_number c.args.jobs.now key)))
    (λ q. c.in_ok-names.ensures.names q ∙ ap (λ (ps : List (JobMark × ℕ)). cond (is_keyed q ps) (name_at c.args.jobs.now q) None) c.as_slice.ensures.value)
