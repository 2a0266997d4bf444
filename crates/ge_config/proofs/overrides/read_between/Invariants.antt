use Rattle.std.proofs.Common.{◌≡◌, length}
use Rattle.ge_model_config.specs.Overrides.{overrides_between}
use Rattle.ge_config.specs.Joined.{before_rest}
use Rattle.ge_config.proofs.overrides.read_between.Given as goal

abbrev pub invariant-loop-text : goal.invariant-loop-text
invariant-loop-text l = before_rest l.pairs (overrides_between l.rest) ≡ overrides_between l.fn.texts

abbrev pub decreases-loop-text : goal.decreases-loop-text
decreases-loop-text l = length l.rest
