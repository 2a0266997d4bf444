use Rattle.std.proofs.Common.{arith}
use Rattle.ge_model_codec.specs.Cluster.{cluster_code_1}
use Rattle.ge_codec.specs.ClusterLaws.{cluster_canonical_1}
use Rattle.ge_snapshot.specs.Whole.{one_spelling}
use Rattle.ge_snapshot.proofs.take_cluster_1.Goals as goal

pub returns-clause-one_spelling : goal.returns-clause-one_spelling
returns-clause-one_spelling c =
    one_spelling cluster_code_1 c.args.bytes.now cluster_canonical_1 (λ k. omega (arith, c.type_inv.bytes k)) c.take_whole.result c.take_whole.ensures
