use Rattle.std.proofs.Common.{sym, ap, ◌∙◌}
use Rattle.ge_model_rows.specs.TaskRows.{TaskSpan, is_form}
use Rattle.ge_model_rows.specs.Ranges.{range_set}
use Rattle.ge_ranges.proofs.Written.{written_form}
use Rattle.ge_ranges.proofs.ranges.WrittenRange.span.Goals as goal

pub returns-else-last-self-clause-form : goal.returns-else-last-self-clause-form
returns-else-last-self-clause-form c =
    let i = c.self.invariant in
    let v = c.self.view_is in
    ap (λ (r : TaskSpan). is_form (range_set r)) (sym v) ∙ written_form _ i.0 i.1 i.2
