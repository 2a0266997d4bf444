use Rattle.std.proofs.Common.{◌≡◌, ◌++◌, map}
use Rattle.ge_listing.proofs.fields.running_numbers.Given as goal

abbrev pub invariant-loop-number : goal.invariant-loop-number
invariant-loop-number l = l.numbers ++ map (λ task. task.0) l.number-iterator ≡ map (λ task. task.0) l.job.running
