use Rattle.std.proofs.Common.{◌≡◌, ◌++◌}
use Rattle.std.specs.Prelude.{filter}
use Rattle.std.specs.Map.{keys_of}
use Rattle.ge_model_jobs.specs.Picks.{names_task}
use Rattle.ge_jobs.proofs.deleting.named_numbers.Given as goal

abbrev pub invariant-loop-number : goal.invariant-loop-number
invariant-loop-number l = l.numbers ++ filter (names_task l.tasks) l.number-iterator ≡ filter (names_task l.tasks) (keys_of l.running)
