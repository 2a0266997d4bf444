use Rattle.std.proofs.Common.{List, ap, ◌∙◌}
use Rattle.ge_model_rows.specs.TaskRows.{TaskSpan}
use Rattle.ge_ranges.specs.Forming.{have_seconds}
use Rattle.ge_ranges.proofs.Seconds.{form_seconds}
use Rattle.ge_ranges.proofs.combining.put_together.Goals as goal

pub merge-requires-clause-spans : goal.merge-requires-clause-spans
merge-requires-clause-spans c = ap (λ (s : List TaskSpan). have_seconds s) c.spans.ensures.spans ∙ form_seconds c.args.s.now c.spans.ensures.form

pub merge-requires-clause-others : goal.merge-requires-clause-others
merge-requires-clause-others c = ap (λ (s : List TaskSpan). have_seconds s) c.spans-2.ensures.spans ∙ form_seconds c.args.t.now c.spans-2.ensures.form
