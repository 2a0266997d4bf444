use Rattle.std.proofs.Common.{◌≡◌, ◌++◌}
use Rattle.std.specs.Prelude.{filter, flat_map}
use Rattle.ge_model_text.specs.Pattern.{pattern_covers}
use Rattle.ge_model_report.specs.JobLines.{job_lines, jobs_listing}
use Rattle.ge_listing.proofs.jobs.list_jobs.Given as goal

abbrev pub invariant-loop-number : goal.invariant-loop-number
invariant-loop-number l = l.lines ++ flat_map (job_lines l.c.jobs) (filter (λ entry. pattern_covers l.pattern entry.1.owner) l.number-iterator) ≡ jobs_listing l.c l.pattern
