use Rattle.std.proofs.Common.{◌≡◌, ◌++◌, take, map}
use Rattle.std.specs.Prelude.{codes, flat_map}
use Rattle.ge_printing.specs.Columns.{column_text}
use Rattle.ge_printing.proofs.columns.append_others.Given as goal

abbrev pub invariant-loop-column : goal.invariant-loop-column
invariant-loop-column l = l.line.items ≡ l.fn.line.items ++ flat_map (λ next. codes " " ++ next) (map column_text (take l.column-index l.columns))
