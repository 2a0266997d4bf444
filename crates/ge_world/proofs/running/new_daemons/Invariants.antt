use Rattle.std.proofs.Common.{◌≡◌, ◌++◌, map, drop}
use Rattle.ge_execd.specs.Daemons.{new_daemon}
use Rattle.ge_world.proofs.running.new_daemons.Given as goal

-- those so far, and those of the hosts that are left
abbrev pub invariant-loop-host : goal.invariant-loop-host
invariant-loop-host l = l.daemons ++ map new_daemon (drop l.host-index l.hosts) ≡ map new_daemon l.hosts
