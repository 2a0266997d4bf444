use Rattle.std.proofs.Common.{List, ap, ◌∙◌}
use Rattle.ge_model_rows.specs.TaskRows.{TaskSpan, is_form}
use Rattle.ge_model_rows.specs.Sets.{with_number}
use Rattle.ge_model_rows.proofs.Sets.{with_number_form}
use Rattle.ge_ranges.specs.Forming.{have_seconds}
use Rattle.ge_ranges.proofs.Seconds.{form_seconds}
use Rattle.ge_ranges.proofs.putting.with_number.Goals as goal

pub spans_with-requires : goal.spans_with-requires
spans_with-requires c = ap (λ (s : List TaskSpan). have_seconds s) c.spans.ensures.spans ∙ form_seconds c.args.s.now c.spans.ensures.form

pub from_spans-requires : goal.from_spans-requires
from_spans-requires c =
    ap (λ (s : List TaskSpan). is_form s) c.in_ok-spans.ensures ∙ ap (λ (s : List TaskSpan). is_form (with_number c.args.n s)) c.spans.ensures.spans
    ∙ with_number_form c.args.n c.args.s.now c.requires c.spans.ensures.form
