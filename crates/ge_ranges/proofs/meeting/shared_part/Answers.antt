use Rattle.std.proofs.Common.{List, ap, ◌∙◌}
use Rattle.ge_model_rows.specs.TaskRows.{TaskSpan}
use Rattle.ge_ranges.specs.Forming.{have_seconds}
use Rattle.ge_ranges.proofs.SharedSets.{by_seconds}
use Rattle.ge_ranges.proofs.meeting.shared_part.Goals as goal

pub returns-then-s-t-clause-seconds : goal.returns-then-s-t-clause-seconds
returns-then-s-t-clause-seconds c = ap (λ (s : List TaskSpan). have_seconds s) c.shared_by.ensures ∙ by_seconds c.args.s.now c.args.t.now

pub returns-else-s-t-clause-seconds : goal.returns-else-s-t-clause-seconds
returns-else-s-t-clause-seconds c = ap (λ (s : List TaskSpan). have_seconds s) c.shared_by-else-s-t.ensures ∙ by_seconds c.args.t.now c.args.s.now
