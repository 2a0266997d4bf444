use Rattle.std.proofs.Common.{◌≡◌, drop, fold}
use Rattle.ge_model_rows.specs.Queues.{with_host}
use Rattle.ge_site.proofs.hostlists.add_hosts.Given as goal

abbrev pub invariant-loop-host : goal.invariant-loop-host
invariant-loop-host l = fold (with_host l.queue) l.instances.entries (drop l.host-index l.hosts) ≡ fold (with_host l.queue) l.fn.instances.entries l.hosts
