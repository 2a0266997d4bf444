use Rattle.std.proofs.Common.{◌≡◌, fold}
use Rattle.ge_attempts.specs.Rests.{sooner_end, cut_at_advances}
use Rattle.ge_attempts.proofs.renewing.cut_at_advances.Given as goal

abbrev pub invariant-loop-number : goal.invariant-loop-number
invariant-loop-number l = fold sooner_end l.soonest l._number-iterator ≡ cut_at_advances l.advances l.end
