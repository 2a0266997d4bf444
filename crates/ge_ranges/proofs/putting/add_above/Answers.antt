use Rattle.std.proofs.Common.{List, ap, ◌∙◌}
use Rattle.ge_model_rows.specs.TaskRows.{TaskSpan}
use Rattle.ge_ranges.specs.Forming.{have_seconds}
use Rattle.ge_ranges.proofs.Seconds.{above_seconds, second_there}
use Rattle.ge_ranges.proofs.putting.add_above.Goals as goal

pub add_some-requires : goal.add_some-requires
add_some-requires c = ap (λ (s : List TaskSpan). have_seconds s) c.above_part.ensures ∙ above_seconds c.args.n _ (second_there c.args.spans.now c.loop-span.span-index _ c.loop-span-test.true c.requires)
