use Rattle.std.proofs.Common.{◌≡◌, ◌++◌, map, take, drop}
use Rattle.ge_attempts.specs.Rests.{renewed_rest}
use Rattle.ge_attempts.proofs.renewing.renew_rests.Given as goal

abbrev pub invariant-loop-rest : goal.invariant-loop-rest
invariant-loop-rest l = l.rests ≡ map (renewed_rest l.at.moment l.booked) (take l.rest-index l.fn.rests) ++ drop l.rest-index l.fn.rests
