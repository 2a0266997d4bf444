use Rattle.std.proofs.Common.{◌≡◌, ◌==◌, take, map}
use Rattle.std.specs.Prelude.{filter}
use Rattle.ge_model_report.specs.Accounting.{line_text}
use Rattle.ge_listing.proofs.queries.lines_of_job.Given as goal

abbrev pub invariant-loop-line : goal.invariant-loop-line
invariant-loop-line l = l.texts ≡ map line_text (filter (λ line. line.job == l.number) (take l.line-index l.lines))
