use Rattle.std.proofs.Common.{◌≡◌}
use Rattle.std.specs.List.{list_any}
use Rattle.ge_config.specs.Uses.{host_has_some}
use Rattle.ge_config.proofs.uses.hosts_name_some.Given as goal

abbrev pub invariant-loop-host : goal.invariant-loop-host
invariant-loop-host l = list_any (host_has_some l.names) l.host-iterator ≡ list_any (host_has_some l.names) l.hosts
