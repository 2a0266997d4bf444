-- Sets of task numbers as text.
use Rattle.std.specs.Prelude.{ℕ, if◌then◌else◌, List, ◌++◌, map, decimal, codes}
use Rattle.ge_model_rows.specs.TaskRows.{TaskSpan}
use Rattle.ge_model_rows.specs.Pieces.{joined_by}
use Rattle.ge_model_rows.specs.Spans.{is_one}

-- a range as text, F-L:S
abbrev pub range_text : TaskSpan → List ℕ
range_text s = decimal s.first ++ codes "-" ++ decimal s.last ++ codes ":" ++ decimal s.step

-- a span as text: F for one number, else F-L:S
abbrev pub span_text : TaskSpan → List ℕ
span_text s = if is_one s then decimal s.first else range_text s

-- a set as text: its spans, joined by commas
abbrev pub set_text : List TaskSpan → List ℕ
set_text spans = joined_by (codes ",") (map span_text spans)
