use Rattle.std.proofs.Common.{List, ap, ◌∙◌}
use Rattle.ge_model_rows.specs.TaskRows.{TaskSpan, is_form}
use Rattle.ge_ranges.proofs.Counts.{one_more}
use Rattle.ge_ranges.proofs.asking.len.Goals as goal

pub loop-span-preserved : goal.loop-span-preserved
loop-span-preserved c =
    one_more c.spans-span-items.result.now c.loop-span.span-index c.loop-span.count c.count_after-count.result _
    (ap (λ (s : List TaskSpan). is_form s) c.spans-span-items.ensures.spans ∙ c.spans-span-items.ensures.form)
    c.loop-span-test.true c.count_after-count.ensures.small c.loop-span.invariant c.count_after-count.ensures.count
