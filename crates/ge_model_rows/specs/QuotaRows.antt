-- Resource quota sets, their rules and filters: sge_resource_quota.
pub use Rattle.ge_rows.specs.declared.quotas.QuotaRow.{QuotaRow}
pub use Rattle.ge_rows.specs.declared.quotas.Rule.{Rule}
pub use Rattle.ge_rows.specs.declared.quotas.Filter.{Filter}
