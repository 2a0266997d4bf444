use Rattle.std.proofs.Common.{List, ap, ◌∙◌}
use Rattle.ge_model_rows.specs.TaskRows.{TaskSpan, is_form}
use Rattle.ge_ranges.proofs.Listed.{rising_form}
use Rattle.ge_ranges.proofs.listing.set_of.Goals as goal

pub from_spans-requires : goal.from_spans-requires
from_spans-requires c = ap (λ (s : List TaskSpan). is_form s) c.in_ok-spans.ensures ∙ rising_form c.args.numbers.now c.requires
