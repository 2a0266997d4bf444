use Rattle.std.proofs.Common.{◌≡◌}
use Rattle.std.specs.List.{list_any}
use Rattle.ge_model_config.specs.Cited.{has_name}
use Rattle.std.specs.Prelude.{◌||◌, ◌&&◌, ◌∷◌}
use Rattle.ge_configuring.proofs.sites.complex_on_hosts.Given as goal

abbrev pub invariant-loop-host : goal.invariant-loop-host
invariant-loop-host l = list_any (λ host. has_name host.1.values l.name || has_name host.1.load l.name) l.host-iterator ≡ list_any (λ host. has_name host.1.values l.name || has_name host.1.load l.name) l.c.hosts
