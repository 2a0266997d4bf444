use Rattle.std.proofs.Common.{◌≡◌, ◌++◌, flat_map}
use Rattle.ge_jobs.specs.Deletions.{marks_if_named}
use Rattle.ge_jobs.proofs.deleting.named_marks.Given as goal

abbrev pub invariant-loop-row : goal.invariant-loop-row
invariant-loop-row l = l.marks.items ++ flat_map (marks_if_named l.tasks) l.row-iterator ≡ flat_map (marks_if_named l.tasks) l.running
