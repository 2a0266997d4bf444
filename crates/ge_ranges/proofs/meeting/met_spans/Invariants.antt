use Rattle.std.proofs.Common.{◌≡◌, ◌+◌, ◌++◌, length}
use Rattle.ge_model_rows.specs.Spans.{in_form}
use Rattle.ge_ranges.specs.Forming.{formed_from}
use Rattle.ge_ranges.specs.Meeting.{met}
use Rattle.ge_ranges.proofs.meeting.met_spans.Given as goal

abbrev pub invariant-loop-s : goal.invariant-loop-s
invariant-loop-s l = l.forming.done ++ formed_from l.forming.run (met l.spans l.others) ≡ in_form (met l.fn.spans l.fn.others)

abbrev pub decreases-loop-s : goal.decreases-loop-s
decreases-loop-s l = length l.spans + length l.others
