use Rattle.std.proofs.Common.{◌≡◌, drop}
use Rattle.std.specs.List.{list_any}
use Rattle.ge_model_core.specs.Reaching.{reaches_itself}
use Rattle.ge_job_options.proofs.reaching.closes_any.Given as goal

abbrev pub invariant-loop-number : goal.invariant-loop-number
invariant-loop-number l =
    list_any (λ patch. reaches_itself l.waits.0 l.waits.1 patch.0) (drop l.number-index l.patches) ≡ list_any (λ patch. reaches_itself l.waits.0 l.waits.1 patch.0) l.patches
