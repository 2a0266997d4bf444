use Rattle.std.proofs.Common.{◌≡◌, ◌++◌}
use Rattle.std.specs.Prelude.{flat_map}
use Rattle.ge_model_core.specs.Targets.{live_named, named_jobs}
use Rattle.ge_deleting.specs.Counts.{shown}
use Rattle.ge_deleting.proofs.targets.jobs_named.Given as goal

abbrev pub invariant-loop-number : goal.invariant-loop-number
invariant-loop-number l = record {
  same : l.live ≡ l.fn.live;
  more : shown l.named.items ++ flat_map (live_named l.fn.live.0) l.number-iterator ≡ named_jobs l.fn.live.0 l.picks;
}
