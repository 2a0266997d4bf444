use Rattle.std.proofs.Common.{take}
use Rattle.ge_place.specs.Hosts.{AreFound}
use Rattle.ge_place.proofs.hosts.hosts_of.Given as goal

abbrev pub invariant-loop-place : goal.invariant-loop-place
invariant-loop-place l = AreFound (take l.place l.spots) l.hosts.items l.numbers.entries
