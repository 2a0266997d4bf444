use Rattle.std.proofs.Common.{◌≡◌, ◌++◌, List, drop, map}
use Rattle.ge_model_rows.specs.TaskRows.{TaskSpan}
use Rattle.ge_model_rows.specs.Spans.{one}
use Rattle.ge_ranges.specs.Forming.{formed_from}
use Rattle.ge_ranges.proofs.listing.add_numbers.Given as goal

abbrev pub invariant-loop-number : goal.invariant-loop-number
invariant-loop-number l = (rest : List TaskSpan) → l.forming.done ++ formed_from l.forming.run (map one (drop l.number-index l.numbers) ++ rest) ≡ l.fn.forming.done ++ formed_from l.fn.forming.run (map one l.numbers ++ rest)
