use Rattle.std.proofs.Common.{◌∙◌, ap}
use Rattle.ge_model_rows.specs.ClusterRows.{Cluster}
use Rattle.ge_gridacct.proofs.Spooled.{flushes_opened}
use Rattle.ge_gridacct.proofs.flushing.flush.Goals as goal

pub returns-in-Ok : goal.returns-in-Ok
returns-in-Ok g c =
    flushes_opened c.flush_lines.result _ _ _ _ c.in-Ok.master c.in-Ok.ensures.opens c.items.result.now (c.items.ensures ∙ ap (λ (cluster : Cluster). cluster.lines) c.cluster.ensures)
    c.flush_lines.ensures.statuses c.flush_lines.ensures.spool c.flush_lines.ensures.flushes c.flush_lines.ensures.unwritten c.flush_lines.ensures.write c.flush_lines.ensures.disk
