use Rattle.std.proofs.Common.{List, ap, ◌∙◌}
use Rattle.ge_model_rows.specs.TaskRows.{TaskSpan}
use Rattle.ge_ranges.specs.Forming.{have_seconds}
use Rattle.ge_ranges.proofs.Seconds.{below_seconds}
use Rattle.ge_ranges.proofs.putting.add_below.Goals as goal

pub add_some-requires : goal.add_some-requires
add_some-requires c = ap (λ (s : List TaskSpan). have_seconds s) c.below_part.ensures ∙ below_seconds c.args.n _
