use Rattle.std.proofs.Common.{◌∙◌}
use Rattle.ge_world_master.proofs.Copied.{read_same}
use Rattle.ge_world_master.proofs.clusters.same_cluster.Goals as goal

pub returns-in-Ok : goal.returns-in-Ok
returns-in-Ok c = read_same c.args.c.now c.in-Ok.twin c.bytes.result.now c.in_ok-bytes.ensures.fits (c.bytes.ensures ∙ c.in_ok-bytes.ensures.bytes) c.in-Ok.ensures.read
