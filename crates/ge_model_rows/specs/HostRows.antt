-- Hosts, groups of hosts, queue instances: host_conf, hostgroup.
pub use Rattle.ge_rows.specs.declared.hosts.HostRow.{HostRow}
pub use Rattle.ge_rows.specs.declared.hosts.Groups.{Groups}
pub use Rattle.ge_rows.specs.declared.hosts.InstanceId.{InstanceId}
