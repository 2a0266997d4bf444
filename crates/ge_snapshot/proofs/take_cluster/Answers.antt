use Rattle.std.proofs.Common.{arith}
use Rattle.ge_model_codec.specs.Cluster.{cluster_code}
use Rattle.ge_codec.specs.ClusterLaws.{cluster_canonical}
use Rattle.ge_snapshot.specs.Whole.{one_spelling}
use Rattle.ge_snapshot.proofs.take_cluster.Goals as goal

pub returns-clause-one_spelling : goal.returns-clause-one_spelling
returns-clause-one_spelling c =
    one_spelling cluster_code c.args.bytes.now cluster_canonical (λ k. omega (arith, c.type_inv.bytes k)) c.take_whole.result c.take_whole.ensures
