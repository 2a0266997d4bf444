use Rattle.std.proofs.Common.{arith}
use Rattle.ge_snapshot.specs.Whole.{whole_read}
use Rattle.ge_snapshot.proofs.take_whole.Goals as goal

pub returns : goal.returns
returns g c =
    (c.in_ok-cluster.end, whole_read g.F.Format.code c.args.bytes.now c.in_ok-cluster.cluster c.in_ok-cluster.end c.in_ok-cluster.ensures.read (omega arith))
