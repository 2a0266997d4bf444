use Rattle.std.proofs.Common.{◌-◌, ◌+◌, List, ap, ◌∙◌}
use Rattle.ge_model_rows.specs.TaskRows.{TaskSpan}
use Rattle.ge_ranges.specs.Forming.{have_seconds}
use Rattle.ge_ranges.proofs.Seconds.{below_seconds, above_seconds}
use Rattle.ge_ranges.proofs.merging.turn.Goals as goal

pub keep-requires : goal.keep-requires
keep-requires c = ap (λ (s : List TaskSpan). have_seconds s) c.below_part.ensures ∙ below_seconds c.args.t.first c.args.s

pub keep-requires-in-Equal : goal.keep-requires-in-Equal
keep-requires-in-Equal c = ap (λ (s : List TaskSpan). have_seconds s) c.part_up_to.ensures ∙ below_seconds (c.shared_end-end.result + 1) c.args.s

pub keep-requires-in-Greater : goal.keep-requires-in-Greater
keep-requires-in-Greater c = ap (λ (s : List TaskSpan). have_seconds s) c.below_part-in-Greater.ensures ∙ below_seconds c.args.s.first c.args.t

pub returns-in_ok-keep-in-Less-clause-one : goal.returns-in_ok-keep-in-Less-clause-one
returns-in_ok-keep-in-Less-clause-one c =
    ap (λ (s : List TaskSpan). have_seconds s) c.above_part.ensures ∙ above_seconds (c.args.t.first - 1) c.args.s c.requires.one

pub returns-in_ok-keep-in-Equal-clause-one : goal.returns-in_ok-keep-in-Equal-clause-one
returns-in_ok-keep-in-Equal-clause-one c =
    ap (λ (s : List TaskSpan). have_seconds s) c.above_part-in-Equal.ensures ∙ above_seconds c.shared_end-end.result c.args.s c.requires.one

pub returns-in_ok-keep-in-Equal-clause-other : goal.returns-in_ok-keep-in-Equal-clause-other
returns-in_ok-keep-in-Equal-clause-other c =
    ap (λ (s : List TaskSpan). have_seconds s) c.above_part-in-Equal-2.ensures ∙ above_seconds c.shared_end-end.result c.args.t c.requires.other

pub returns-in_ok-keep-in-Greater-clause-other : goal.returns-in_ok-keep-in-Greater-clause-other
returns-in_ok-keep-in-Greater-clause-other c =
    ap (λ (s : List TaskSpan). have_seconds s) c.above_part-in-Greater.ensures ∙ above_seconds (c.args.s.first - 1) c.args.t c.requires.other
