use Rattle.std.proofs.Common.{◌≡◌, ◌++◌, List, drop}
use Rattle.ge_model_rows.specs.TaskRows.{TaskSpan}
use Rattle.ge_model_rows.specs.Sets.{above}
use Rattle.ge_ranges.specs.Forming.{formed_from}
use Rattle.ge_ranges.proofs.putting.add_above.Given as goal

abbrev pub invariant-loop-span : goal.invariant-loop-span
invariant-loop-span l = (rest : List TaskSpan) → l.forming.done ++ formed_from l.forming.run (above l.n (drop l.span-index l.spans) ++ rest) ≡ l.fn.forming.done ++ formed_from l.fn.forming.run (above l.n l.spans ++ rest)
