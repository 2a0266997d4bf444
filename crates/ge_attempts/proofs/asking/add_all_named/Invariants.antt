use Rattle.std.proofs.Common.{◌≡◌, ◌++◌, filter}
use Rattle.std.specs.Vec.Iter.{into_iter_items}
use Rattle.ge_attempts.specs.Rests.{is_of}
use Rattle.ge_attempts.proofs.asking.add_all_named.Given as goal

abbrev pub invariant-loop-counted : goal.invariant-loop-counted
invariant-loop-counted l =
    l.asked ++ filter (λ more. is_of more.limit l.name) (into_iter_items l.counted-iterator) ≡ l.fn.asked ++ filter (λ more. is_of more.limit l.name) l.fn.limits
