use Rattle.std.proofs.Common.{◌≡◌, length}
use Rattle.ge_model_text.specs.Pattern.{in_set}
use Rattle.ge_text.proofs.patterns.set_has.Given as goal

-- nothing before what is left has the byte
abbrev pub invariant-loop-rest : goal.invariant-loop-rest
invariant-loop-rest l = in_set l.rest l.b ≡ in_set l.set l.b

abbrev pub decreases-loop-rest : goal.decreases-loop-rest
decreases-loop-rest l = length l.rest
