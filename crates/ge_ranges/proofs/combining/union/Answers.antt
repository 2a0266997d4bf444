use Rattle.std.proofs.Common.{List, ap, ◌∙◌}
use Rattle.ge_model_rows.specs.TaskRows.{TaskSpan, is_form}
use Rattle.ge_model_rows.proofs.Together.{union_form}
use Rattle.ge_ranges.proofs.combining.union.Goals as goal

pub from_spans-requires : goal.from_spans-requires
from_spans-requires c =
    ap (λ (s : List TaskSpan). is_form s) c.in_ok-spans.ensures.value ∙ union_form c.args.s.now c.args.t.now c.in_ok-spans.ensures.one c.in_ok-spans.ensures.other
