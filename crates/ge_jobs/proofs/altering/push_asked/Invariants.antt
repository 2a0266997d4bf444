use Rattle.std.proofs.Common.{◌≡◌, ◌++◌, map}
use Rattle.std.specs.Map.{keys_of}
use Rattle.ge_rows.specs.Marks.{attribute_mark}
use Rattle.ge_jobs.proofs.altering.push_asked.Given as goal

abbrev pub invariant-loop-name : goal.invariant-loop-name
invariant-loop-name l = l.marks.items ++ map attribute_mark l.name-iterator ≡ l.fn.marks.items ++ map attribute_mark (keys_of l.asked)
