use Rattle.std.proofs.Common.{◌≡◌, ◌++◌}
use Rattle.ge_site.proofs.hostlists.append_instances.Given as goal

abbrev pub invariant-loop-at : goal.invariant-loop-at
invariant-loop-at l = l.found ≡ l.fn.found ++ l.yielded
