use Rattle.std.proofs.Common.{◌≡◌, ◌+◌}
use Rattle.std.specs.Prelude.{fold}
use Rattle.ge_model_core.specs.Reaching.{predecessor_count, all_predecessors}
use Rattle.ge_job_options.proofs.reaching.Waits.all_predecessors.Given as goal

abbrev pub invariant-loop-number : goal.invariant-loop-number
invariant-loop-number l = fold (λ sum row. sum + predecessor_count l.self.0 l.self.1 row) l.all l.number-iterator ≡ all_predecessors l.self.0 l.self.1
