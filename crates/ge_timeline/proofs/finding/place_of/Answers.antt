use Rattle.std.proofs.Common.{leb, leb-true, leb-false, arith, rules}
use Rattle.std.proofs.lemmas.List.Sorted.{IsPartitionPoint-from_clause, IsPartitionedBy-leb}
use Rattle.ge_timeline.proofs.Levels.{moments_rise}
use Rattle.ge_timeline.proofs.finding.place_of.Goals as goal

pub returns-clause-by : goal.returns-clause-by
returns-clause-by c =
    let parted = IsPartitionedBy-leb (λ p. p.at) _ c.args.moment (moments_rise c.args.points.now c.requires) in
    let point = IsPartitionPoint-from_clause (λ p. leb p.at c.args.moment) _ _ c.partition_point.ensures.partitioned parted (λ a r q k. search rules) in
    λ k d h. leb-true _ _ (point.0 k d (omega arith) h)

pub returns-clause-later : goal.returns-clause-later
returns-clause-later c =
    let parted = IsPartitionedBy-leb (λ p. p.at) _ c.args.moment (moments_rise c.args.points.now c.requires) in
    let point = IsPartitionPoint-from_clause (λ p. leb p.at c.args.moment) _ _ c.partition_point.ensures.partitioned parted (λ a r q k. search rules) in
    λ k d h inside. leb-false _ _ (point.1 k d h inside)
