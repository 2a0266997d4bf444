-- All that the cluster keeps, and the cluster before the first command.
pub use Rattle.ge_rows.specs.declared.cluster.Cluster.{Cluster}
unfoldable pub use Rattle.ge_model_rows.specs.Opening.{opening_cluster, default_queue, default_sched}
pub use Rattle.ge_model_rows.specs.Opening.{bare_host, plain_attr, limit_names, with_limits}
unfoldable pub use Rattle.ge_model_rows.specs.OpeningComplexes.{opening_complexes}
pub use Rattle.ge_model_rows.specs.OpeningComplexes.{limit_complex, time_limits, memory_limits, with_row}
