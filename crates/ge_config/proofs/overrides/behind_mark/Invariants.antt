use Rattle.std.proofs.Common.{◌≡◌, length}
use Rattle.ge_model_config.specs.Overrides.{behind_byte_first}
use Rattle.ge_config.proofs.overrides.behind_mark.Given as goal

abbrev pub invariant-loop-first : goal.invariant-loop-first
invariant-loop-first l = behind_byte_first l.byte l.rest ≡ behind_byte_first l.byte l.fn.text

abbrev pub decreases-loop-first : goal.decreases-loop-first
decreases-loop-first l = length l.rest
