use Rattle.std.proofs.Common.{None, arith}
use Rattle.ge_attempts.specs.Rests.{is_full}
use Rattle.ge_attempts.proofs.Open.{open_more}
use Rattle.ge_attempts.proofs.rests.vacant_places.Goals as goal

pub loop-place-preserved : goal.loop-place-preserved
loop-place-preserved c =
    let less = c.loop-place-test.true in
    record {
      within = omega (arith, less);
      are = open_more (is_full c.args.at.now.cluster.now c.args.at.now.moment None) c.args.lefts.now c.loop-place.place c.index-lefts-place.result c.loop-place.vacant c.add_vacant.new.vacant less c.index-lefts-place.is c.in_ok-add_vacant.ensures
          c.loop-place.invariant.are;
    }
