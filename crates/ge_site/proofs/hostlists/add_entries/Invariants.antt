use Rattle.std.proofs.Common.{◌≡◌, drop, fold}
use Rattle.ge_model_rows.specs.Groups.{hostlist_hosts}
use Rattle.ge_model_rows.specs.Queues.{with_host}
use Rattle.ge_site.proofs.hostlists.add_entries.Given as goal

abbrev pub invariant-loop-entry : goal.invariant-loop-entry
invariant-loop-entry l =
    fold (with_host l.queue) l.instances.entries (hostlist_hosts l.groups (drop l.entry-index l.entries)) ≡ fold (with_host l.queue) l.fn.instances.entries (hostlist_hosts l.groups l.entries)
