use Rattle.std.proofs.Common.{List, ap, ◌∙◌}
use Rattle.ge_model_rows.specs.TaskRows.{TaskSpan, is_form}
use Rattle.ge_model_rows.specs.Sets.{without_number}
use Rattle.ge_ranges.proofs.Stays.{without_form}
use Rattle.ge_ranges.specs.Forming.{have_seconds}
use Rattle.ge_ranges.proofs.Seconds.{form_seconds}
use Rattle.ge_ranges.proofs.putting.without_number.Goals as goal

pub spans_without-requires : goal.spans_without-requires
spans_without-requires c = ap (λ (s : List TaskSpan). have_seconds s) c.spans.ensures.spans ∙ form_seconds c.args.s.now c.spans.ensures.form

pub from_spans-requires : goal.from_spans-requires
from_spans-requires c =
    ap (λ (s : List TaskSpan). is_form s) c.in_ok-spans.ensures ∙ ap (λ (s : List TaskSpan). is_form (without_number c.args.n s)) c.spans.ensures.spans
    ∙ without_form c.args.n c.args.s.now c.spans.ensures.form
